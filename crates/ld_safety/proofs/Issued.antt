-- Each trim at a node, in a summary, in a message, in a recovery or in a plan is none, or an issued point.
use Rattle.std.proofs.Common.{◌≡◌, ℕ, inl, inr, refl, sym, subst, List, [], Option, Some, None}
use Rattle.ld_config.specs.declared.config.Config.{Config}
use Rattle.ld_msg.specs.declared.msg.Who.{Who}
use Rattle.ld_msg.specs.declared.msg.Who.TheVariants as whos
use Rattle.ld_msg.specs.declared.msg.Body.{Body}
use Rattle.ld_msg.specs.declared.msg.Body.TheVariants as bodies
use Rattle.ld_msg.specs.Digest.{Told}
use Rattle.ld_msg.specs.Sequencer.{Sequencer, Recovery, Stage, Seals, Stores, Closes}
use Rattle.ld_op.specs.Plain.{Plain, log_of}
use Rattle.ld_machine.specs.Disk.{Cut}
use Rattle.ld_machine.specs.State.{node_at}
use Rattle.ld_machine.specs.Facts.{Happened, Issues}
use Rattle.ld_machine.specs.World.{World, Made, In, begin, MayHold}
use Rattle.ld_machine.specs.Invariant.{TrimsIssued, IsTrim, trims_in, trims_of}
use Rattle.ld_machine.specs.Run.{Move, world_after, trace}
use Rattle.ld_safety.proofs.Lists.{Some_inj, not_none, only, In-map}
use Rattle.ld_safety.proofs.Names.{found}
use Rattle.ld_safety.proofs.Traces.{later}
use Rattle.ld_safety.proofs.Given.{AnyEpoch, AnyShown, AnyReleased, SmallGood, GivenEntry, GivenTrim, GivenSummary}
use Rattle.ld_safety.proofs.GivenSteps.{BaseGiven}
use Rattle.ld_safety.proofs.Along.{Along}
use Rattle.ld_safety.proofs.Agreed.{basis_of}
use Rattle.ld_safety.proofs.AlongSteps.{along_kept}
use Rattle.ld_safety.proofs.Carried as carried

abbrev PlainGiven : List Happened → Plain → Type 0
PlainGiven hs p = carried.PlainOk (GivenEntry hs) (GivenTrim hs) (GivenSummary hs) AnyEpoch AnyShown AnyReleased (GivenEntry hs) SmallGood p

abbrev CutGiven : List Happened → Option Cut → Type 0
CutGiven hs None = Unit {0}
CutGiven hs (Some k) = PlainGiven hs k.plain

abbrev BodyGiven : List Happened → ℕ → Who → Body → Type 0
BodyGiven hs l from b = carried.BodyOk (GivenEntry hs) (GivenTrim hs) (GivenSummary hs) AnyEpoch AnyShown AnyReleased (GivenEntry hs) SmallGood l from b

is_trim : (hs : List Happened) (l t : ℕ) → GivenTrim hs l t → IsTrim hs l t
is_trim hs l t (inl h) = inl h
is_trim hs l t (inr h) = inr (h.0, subst (λ k. Issues hs l k h.0) (sym h.2) h.3)

module _ (c : Config) (hs : List Happened) (w : World) (B : BaseGiven c hs w) where
  given_at : (y : ℕ) (p : Plain) → MayHold (node_at w.state y) p → PlainGiven hs p
  given_at y p (inl q) = subst (PlainGiven hs) (sym q) (B.1.nodes y).plain
  given_at y p (inr h) = subst (PlainGiven hs) (sym h.2) (by_cut (node_at w.state y).cut h.1 (B.1.nodes y).cut) where
    by_cut : (o : Option Cut) → o ≡ Some h.0 → CutGiven hs o → PlainGiven hs h.0.plain
    by_cut None q H = absurd (not_none q)
    by_cut (Some x) q H = subst (λ (v : Cut). PlainGiven hs v.plain) (Some_inj q) H

  told_trim : (l t : ℕ) (from : Who) (b : Body) → BodyGiven hs l from b → In t (trims_in b) → IsTrim hs l t
  told_trim l t from (bodies.CleanHere n y) h i = subst (IsTrim hs l) (sym (only t y.trim i)) (is_trim hs l y.trim h.1.0)
  told_trim l t from (bodies.Clean e y) h i = subst (IsTrim hs l) (sym (only t y.trim i)) (is_trim hs l y.trim h.0)
  told_trim l t from (bodies.TrimmedHere n k) h i = subst (IsTrim hs l) (sym (only t k i)) (is_trim hs l k h.0)
  told_trim l t from (bodies.DigestPage n upto k lng es) h i = subst (IsTrim hs l) (sym (only t k i)) (is_trim hs l k h.0.trim)
  told_trim l t from (bodies.Trim k) h i = subst (IsTrim hs l) (sym (only t k i)) (is_trim hs l k h)
  told_trim l t from (bodies.ReadTrim round n k) h i = subst (IsTrim hs l) (sym (only t k i)) (is_trim hs l k h)
  told_trim l t from _ h i = absurd i

  -- ---- in a recovery ----
  abbrev StageGiven : ℕ → ℕ → ℕ → Stage → Type 0
  StageGiven l b e g = carried.StageOk (GivenEntry hs) (GivenTrim hs) (GivenSummary hs) AnyEpoch AnyShown AnyReleased (GivenEntry hs) SmallGood l b e g

  stage_trim : (l b e t : ℕ) (g : Stage) → StageGiven l b e g → In t (trims_of g) → IsTrim hs l t
  stage_trim l b e t (Seals ts) h i = let m = In-map (λ (x : Told). x.trim) t ts i in subst (IsTrim hs l) (sym m.2) (is_trim hs l m.0.trim (h m.0 m.1).trim)
  stage_trim l b e t (Stores g) h i = subst (IsTrim hs l) (sym (only t g.trim i)) (is_trim hs l g.trim h.0.0)
  stage_trim l b e t (Closes y short) h i = subst (IsTrim hs l) (sym (only t y.trim i)) (is_trim hs l y.trim h.0)

  recovery_trim : (q : List ℕ × Sequencer) (v : Recovery) (t : ℕ) → In q w.state.sequencers → q.1.recovery ≡ Some v → In t (trims_of v.stage) → IsTrim hs q.1.log t
  recovery_trim q v t i r j = let k = (B.1.sequencers q.0 q.1 (found w.state.sequencers q B.0.0.0.0 i)).recovery in
      stage_trim q.1.log q.1.epoch v.epoch t v.stage (subst (carried.RecoveryOk (GivenEntry hs) (GivenTrim hs) (GivenSummary hs) AnyEpoch AnyShown AnyReleased (GivenEntry hs) SmallGood q.1.log q.1.epoch) r k).1 j

  -- a digest that a plan was made from has its trims of pages
  plan_trim : Along c hs w → (m : Made) (d : Told) → In m w.made → In d m.digest → IsTrim hs m.log d.trim
  plan_trim R m d i j = elim ((R.plans m.log m.epoch m.ballot (basis_of m) i).digest.told d j).trimmed [
    | inl z ↦ inl z
    | inr z ↦ told_trim m.log d.trim (whos.Node d.node) (bodies.DigestPage z.from z.upto d.trim z.lng z.entries) (B.1.sent _ z.page).0 (inl refl)
  ]

  pub trims_here : Along c hs w → TrimsIssued hs w
  trims_here R = record {
    at_nodes = λ y p m l. is_trim hs l (log_of p l).trim (given_at y p m l).trim;
    in_summaries = λ l e s f. is_trim hs l s.trim (B.1.register l e s f).0;
    in_messages = λ m t i j. told_trim m.log t m.from m.body (B.1.sent m i).0 j;
    in_recoveries = recovery_trim;
    in_plans = plan_trim R;
  }

pub trims_are_issued_points : (c : Config) (es : List Move) → TrimsIssued (trace c (begin c) es) (world_after c (begin c) es)
trims_are_issued_points c es = let p = later c (λ hs w. BaseGiven c hs w × Along c hs w) (along_kept c) [] (begin c) es (along_kept c).begins in trims_here c (trace c (begin c) es) (world_after c (begin c) es) p.0 p.1
