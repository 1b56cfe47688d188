-- No page of a digest ends below its first number.
use Rattle.std.proofs.Common.{◌≤◌, ℕ, inl, inr, refl, subst, List, [], ◌∷◌, ◌++◌, arith}
use Rattle.ld_lsn.specs.Number.{epoch_of, numbered, last_esn}
use Rattle.ld_config.specs.declared.config.Config.{Config}
use Rattle.ld_msg.specs.declared.msg.Entry.{Entry}
use Rattle.ld_msg.specs.declared.msg.Msg.{Msg}
use Rattle.ld_msg.specs.declared.msg.Body.TheVariants as bodies
use Rattle.ld_machine.specs.Facts.{Happened}
use Rattle.ld_machine.specs.World.{World, In, from_node}
use Rattle.ld_machine.specs.Run.{after_step}
use Rattle.ld_machine.specs.Calm as Calm
use Rattle.ld_machine.specs.Calm.{Move}
use Rattle.ld_safety.proofs.Traces.{Keeps, step_happened, beside_kept, both_kept}
use Rattle.ld_safety.proofs.Steps.{sent_by}
use Rattle.ld_safety.proofs.Base.{Base}
use Rattle.ld_safety.proofs.GivenSteps.{BaseGiven}
use Rattle.ld_safety.proofs.Along.{Along}
use Rattle.ld_safety.proofs.AlongSteps.{along_kept, sends_now, same_sent}
use Rattle.ld_calm.proofs.PageEnds.{NodesEnd, Ends, ends_kept}

abbrev pub PagesRise : List Msg → Type 0
PagesRise ms = (l y b from upto t lng : ℕ) (es : List Entry) → In (from_node l y b (bodies.DigestPage from upto t lng es)) ms → from ≤ upto

abbrev pub Paging : Config → List Happened → World → Type 0
Paging c hs w = (BaseGiven c hs w × Along c hs w) × (Base c hs w × NodesEnd w.state.network.sent)

rise_step : (c : Config) (hs : List Happened) (w : World) (e : Move) → Paging c hs w → Paging c (hs ++ step_happened c w.state e ∷ []) (after_step c w e) → PagesRise w.state.network.sent → PagesRise (after_step c w e).state.network.sent
rise_step c hs w e B C A l y b from upto t lng es i = elim (sent_by (Calm.moves c w.state e) _ i) [
  | inl o ↦ A l y b from upto t lng es (subst (λ (ms : List Msg). In (from_node l y b (bodies.DigestPage from upto t lng es)) ms) (same_sent c hs w e B.0.0.0 B.0.0.1 B.0.1) o)
  | inr n ↦ by_end (C.1.1 _ i y refl) (λ f j. let k = ((sends_now c hs w e B.0.0.0 B.0.0.1 B.0.1).pages l y b from upto t lng es n).1.only f j in (k.1, k.2))
] where
  by_end : Ends (bodies.DigestPage from upto t lng es) → ((f : Entry) → In f es → (from ≤ f.number) × (f.number ≤ numbered (epoch_of from) last_esn)) → from ≤ upto
  by_end (inl q) h = omega arith
  by_end (inr f) h = let z = (h f.0 f.1).0 in let q = f.2 in omega arith

-- in every run
pub rise_kept : (c : Config) → Keeps c (λ hs w. Paging c hs w × PagesRise w.state.network.sent)
rise_kept c = beside_kept c (Paging c) (λ hs w. PagesRise w.state.network.sent) (both_kept c (λ hs w. BaseGiven c hs w × Along c hs w) (λ hs w. Base c hs w × NodesEnd w.state.network.sent) (along_kept c) (ends_kept c))
    (λ l y b from upto t lng es i. absurd i) (λ hs w e B C A. rise_step c hs w e B C A)
