-- Generations, ballots and seals were handed out, and summaries are the register's, in every state.
use Rattle.std.proofs.Common.{◌≡◌, ◌∙◌, ◌≤◌, ◌<◌, ℕ, inl, inr, refl, ap, sym, subst, Bool, true, false, ◌-◌, ◌&&◌, ◌==◌, nat_lt, if◌then◌else◌, List, [], Some, arith}
use Rattle.std.proofs.lemmas.Bool.{eqb-true}
use Rattle.ld_table.specs.Table.{find}
use Rattle.ld_lsn.specs.Number.{epoch_of, esn_of, home_epoch}
use Rattle.ld_config.specs.declared.config.Config.{Config}
use Rattle.ld_msg.specs.declared.msg.What.{What}
use Rattle.ld_msg.specs.declared.msg.Entry.{Entry}
use Rattle.ld_msg.specs.declared.msg.Summary.{Summary}
use Rattle.ld_msg.specs.declared.msg.Who.TheVariants as whos
use Rattle.ld_msg.specs.declared.msg.Msg.{Msg}
use Rattle.ld_msg.specs.declared.msg.Body.{Body}
use Rattle.ld_msg.specs.declared.msg.Body.TheVariants as bodies
use Rattle.ld_msg.specs.Bounds.{ballot_of}
use Rattle.ld_msg.specs.Register.{generation_of, epochs_of}
use Rattle.ld_op.specs.Plain.{log_of}
use Rattle.ld_machine.specs.State.{finish}
use Rattle.ld_machine.specs.Facts.{Happened}
use Rattle.ld_machine.specs.Config.{spec_of, fixed_of}
use Rattle.ld_machine.specs.World.{World, In, Sent, begin}
use Rattle.ld_machine.specs.Invariant.{GenerationsDrawn, BallotsDrawn, SummariesAgree, EntryDrawn, Epoch, IsOpen, Closed, entries_of, seals_in, generations_in}
use Rattle.ld_machine.specs.Run.{Move, world_after, after_step, trace}
use Rattle.ld_safety.proofs.Members.{find_in}
use Rattle.ld_safety.proofs.Lists.{not_none, only}
use Rattle.ld_safety.proofs.Traces.{Keeps, later, beside_kept, both_kept}
use Rattle.ld_safety.proofs.Closings.{OfSummaries, summaries_after}
use Rattle.ld_safety.proofs.Base.{Base, base_kept}
use Rattle.ld_safety.proofs.GivenSteps.{BaseGiven}
use Rattle.ld_safety.proofs.Settled.{CloseFine, ClosedBy}
use Rattle.ld_safety.proofs.Said.{Said, SaidHere}
use Rattle.ld_safety.proofs.Along.{Along, BodySaidIn}
use Rattle.ld_safety.proofs.Formats.{FormatsOnce, formats_kept}
use Rattle.ld_safety.proofs.Handed.{HandedOut, handed_kept}
use Rattle.ld_safety.proofs.LostFullKept.{AllFull, full_kept}
use Rattle.ld_safety.proofs.CopiesStand.{said_at}
use Rattle.ld_safety.proofs.LostMoments.{Moments, moments_kept, confirmed_drawn}
use Rattle.ld_safety.proofs.Names.{found}
use Rattle.ld_safety.proofs.Registers.{open_spec}

abbrev AnyState : List Happened → World → Type 0
AnyState hs w = Unit {0}

any_kept : (c : Config) → Keeps c AnyState
any_kept c = record { begins = tt; goes_on = λ hs w e p. tt }

module _ (c : Config) (hs : List Happened) (w : World) (B : BaseGiven c hs w × Along c hs w) (H : HandedOut w) where
  -- ---- generations ----
  lost_told : (y g : ℕ) (m : Msg) (b : Body) → Sent w m → m.from ≡ whos.Node y → m.body ≡ b → In g (generations_in b) → g ≤ generation_of w.state.register y
  lost_told y g m (bodies.LostHere n u k end) i f q j = (H.messages m i).generation y n u g end f (q ∙ ap (λ x. bodies.LostHere n u x end) (sym (only g k j)))
  lost_told y g m _ i f q j = absurd j

  pub generations_here : FormatsOnce hs w → Moments c AnyState hs w → GenerationsDrawn hs w
  generations_here F M = record {
    at_nodes = λ y p m. H.generations y p m;
    in_messages = λ m y g i f j. lost_told y g m m.body i f refl j;
    in_confirmations = λ d v y g i f j. confirmed_drawn c AnyState hs w M d.0 d.1 v y g (found w.state.readers d B.0.0.0.0.1 i) f j;
    once = F.once;
  }

  -- ---- ballots ----
  closing : (l e : ℕ) (s : Summary) → ClosedBy c hs w.made w.state.network.sent w.state.register l e s → (0 < e) × (e < s.ballot) × Epoch w l s.ballot
  closing l e s k = let t = (B.1.plans l e s.ballot k.plan.basis k.plan.planned).later in let b = B.1.below l e s.ballot k.plan.basis k.plan.planned in let p = k.positive in (p, t, (omega arith, b))

  closed_so : (l e : ℕ) (y : Summary) → 0 < e → find e (epochs_of w.state.register l).summaries ≡ Some y → ClosedBy c hs w.made w.state.network.sent w.state.register l e y
  closed_so l e y p f = elim (B.1.said.register l e y f).1 [ inl a ↦ absurd (let z = a.0 in omega arith) | inr a ↦ a ]

  pub entry_drawn : (l : ℕ) (e : Entry) → SaidHere hs w.made w.state.register l e.ballot e.number e.what → EntryDrawn w l e
  entry_drawn l e s = elim s.says [
    | inr (inl o) ↦ by_summary o.summary o.found_so o.ballot
    | inr (inr o) ↦ by_summary o.summary o.found_so o.ballot
    | inl (inl o) ↦ (let q = o.own in let a = s.reached.0 in let b = s.reached.1 in record { epoch = omega arith; below = omega arith; ballot = (omega arith, omega arith) })
    | inl (inr o) ↦ (let q = o.later in let a = s.reached.0 in let b = B.1.below l (epoch_of e.number) e.ballot o.basis o.planned in record { epoch = omega arith; below = omega arith; ballot = (omega arith, omega arith) })
  ] where
    by_summary : (y : Summary) → find (epoch_of e.number) (epochs_of w.state.register l).summaries ≡ Some y → e.ballot ≡ y.ballot → EntryDrawn w l e
    by_summary y f k = let a = s.reached.0 in let z = closing l (epoch_of e.number) y (closed_so l (epoch_of e.number) y s.reached.0 f) in let p = z.1 in let u = z.2.0 in let v = z.2.1 in record { epoch = omega arith; below = omega arith; ballot = (omega arith, omega arith) }

  said_here : (l b n : ℕ) (x : What) → Said hs w.made w.state.register l b n x → SaidHere hs w.made w.state.register l b n x
  said_here l b n x s = record { given = s.given; reached = s.reached; says = inl s.says }

  pub said_in : (m : Msg) (e : Entry) (b : Body) → BodySaidIn c hs w m.log m.from b → In e (entries_of m.from b) → SaidHere hs w.made w.state.register m.log e.ballot e.number e.what
  said_in m e (bodies.Store n lng x) h j = subst (λ (z : Entry). SaidHere hs w.made w.state.register m.log z.ballot z.number z.what) (sym (only e (record { number = n; ballot = ballot_of m.from; what = x }) j)) (said_here m.log (ballot_of m.from) n x h.0)
  said_in m e (bodies.DigestPage n upto t lng es) h j = said_here m.log e.ballot e.number e.what (h.0.entries e j)
  said_in m e (bodies.ReadPage round n upto clean es) h j = h.0.0 e j
  said_in m e _ h j = absurd j

  sealed_told : (k : ℕ) (m : Msg) (b : Body) → Sent w m → m.body ≡ b → In k (seals_in b) → Epoch w m.log k
  sealed_told k m (bodies.SealedHere n v) i q j = (H.messages m i).seal n k (q ∙ ap (bodies.SealedHere n) (sym (only k v j)))
  sealed_told k m _ i q j = absurd j

  pub ballots_here : BallotsDrawn w
  ballots_here = record {
    at_nodes = λ y p m l n e f. entry_drawn l e ((said_at c hs w B y p m l).entries (n, e) (find_in n (log_of p l).entries e f)).1;
    in_messages = λ m e i j. entry_drawn m.log e (said_in m e m.body (B.1.said.sent m i).0 j);
    seals = λ y p m l. H.seals y p m l;
    seals_told = λ m k i j. sealed_told k m m.body i refl j;
  }

  -- ---- summaries ----
  closed_here : (l e : ℕ) (s : Summary) → 0 < e → CloseFine c hs w.made w.state.network.sent w.state.register l e s → Closed w l e s
  closed_here l e s p (t, inl a) = absurd (let z = a.0 in omega arith)
  closed_here l e s p (t, inr a) = a.found_so

  home_is : (n : ℕ) → 0 < esn_of n → home_epoch n ≡ epoch_of n
  home_is n p = cond_home (esn_of n == 0) refl where
    cond_home : (b : Bool) → (esn_of n == 0) ≡ b → (if b && nat_lt 0 (epoch_of n) then epoch_of n - 1 else epoch_of n) ≡ epoch_of n
    cond_home true q = absurd (let z = eqb-true (esn_of n) 0 q in omega arith)
    cond_home false q = refl

  answered : (l n : ℕ) (s : Summary) → 0 < epoch_of n → (0 < esn_of n) × CloseFine c hs w.made w.state.network.sent w.state.register l (epoch_of n) s → Closed w l (home_epoch n) s
  answered l n s p h = subst (λ e. Closed w l e s) (sym (home_is n h.0)) (closed_here l (epoch_of n) s p h.1)

  pub summaries_here : AllFull w → ((l e : ℕ) (s : Summary) → Closed w l e s → 0 < e) → SummariesAgree w
  summaries_here F P = record {
    at_nodes = λ y p m l e s f. closed_here l e s ((F y p m l).positive (e, s) (find_in e (log_of p l).summaries s f)) ((said_at c hs w B y p m l).summaries (e, s) (find_in e (log_of p l).summaries s f));
    in_cleans = λ l b y e s i. closed_here l e s ((H.messages _ i).clean e s refl) (B.1.said.sent _ i).0;
    in_answers = λ l y b n s i. answered l n s ((H.messages _ i).answer n s refl) (B.1.said.sent _ i).0;
    ballots = λ l e s f. closing l e s (closed_so l e s (P l e s f) f);
  }

-- ---- along a run ----

-- only epochs from 1 on are closed
abbrev pub FromOneOn : World → Type 0
FromOneOn w = OfSummaries (λ l e y. 0 < e) w.state.register

from_one_step : (c : Config) (hs : List Happened) (w : World) (v : Move) → Base c hs w → FromOneOn w → FromOneOn (after_step c w v)
unfolding finish
from_one_step c hs w v B h = summaries_after c w.state v (λ l e y. 0 < e) h (λ name q k y l r n z. omega arith) B.0.0

starts_from_one : (c : Config) → FromOneOn (begin c)
unfolding find
starts_from_one c l e y f = absurd (not_none f)

abbrev pub Handing : Config → List Happened → World → Type 0
Handing c hs w = ((((BaseGiven c hs w × Along c hs w) × HandedOut w) × (Base c hs w × FormatsOnce hs w)) × (Base c hs w × AllFull w)) × (Base c hs w × FromOneOn w)

pub handing_kept : (c : Config) → Keeps c (Handing c)
handing_kept c = both_kept c (λ hs w. (((BaseGiven c hs w × Along c hs w) × HandedOut w) × (Base c hs w × FormatsOnce hs w)) × (Base c hs w × AllFull w)) (λ hs w. Base c hs w × FromOneOn w)
    (both_kept c (λ hs w. ((BaseGiven c hs w × Along c hs w) × HandedOut w) × (Base c hs w × FormatsOnce hs w)) (λ hs w. Base c hs w × AllFull w)
    (both_kept c (λ hs w. (BaseGiven c hs w × Along c hs w) × HandedOut w) (λ hs w. Base c hs w × FormatsOnce hs w) (handed_kept c) (formats_kept c)) (full_kept c))
    (beside_kept c (Base c) (λ hs w. FromOneOn w) (base_kept c) (starts_from_one c) (λ hs w e B C h. from_one_step c hs w e B h))

handing : (c : Config) (es : List Move) → Handing c (trace c (begin c) es) (world_after c (begin c) es)
handing c es = later c (Handing c) (handing_kept c) [] (begin c) es (handing_kept c).begins

pub generations_are_drawn_once : (c : Config) (es : List Move) → GenerationsDrawn (trace c (begin c) es) (world_after c (begin c) es)
generations_are_drawn_once c es =
    let p = handing c es in
    let K = moments_kept c AnyState (any_kept c) in
    generations_here c (trace c (begin c) es) (world_after c (begin c) es) p.0.0.0.0 p.0.0.0.1 p.0.0.1.1 (later c (Moments c AnyState) K [] (begin c) es K.begins)

pub ballots_were_drawn : (c : Config) (es : List Move) → BallotsDrawn (world_after c (begin c) es)
ballots_were_drawn c es = let p = handing c es in ballots_here c (trace c (begin c) es) (world_after c (begin c) es) p.0.0.0.0 p.0.0.0.1

pub summaries_agree : (c : Config) (es : List Move) → SummariesAgree (world_after c (begin c) es)
summaries_agree c es = let p = handing c es in summaries_here c (trace c (begin c) es) (world_after c (begin c) es) p.0.0.0.0 p.0.0.0.1 p.0.1.1 p.1.1

-- while an epoch is open its nodes are those that were fixed for it
pub open_sets : (c : Config) (es : List Move) (l e : ℕ) → IsOpen (world_after c (begin c) es) l e → Epoch (world_after c (begin c) es) l e → spec_of c (world_after c (begin c) es).state.register l e ≡ fixed_of c (world_after c (begin c) es).state.register l e
open_sets c es l e o h = let p = handing c es in open_spec c (world_after c (begin c) es).state.register l e p.0.0.0.0.1.each h o
