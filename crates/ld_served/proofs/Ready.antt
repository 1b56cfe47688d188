-- Behind a log's part of a calm all is there that its readers ask: the log is at rest, each node of the configuration is clean in each closed epoch, and the nodes of its last epoch know what is released; and so it stays.
use Rattle.std.proofs.Common.{◌≡◌, ◌∙◌, ◌≤◌, ℕ, inl, inr, refl, ap, sym, subst, Bool, true, false, ◌==◌, if◌then◌else◌, List, [], ◌∷◌, Option, Some, None, arith, eq-eqb}
use Rattle.ld_table.specs.Named.{same, find_named}
use Rattle.ld_table.proofs.NameLaws.{same-true}
use Rattle.ld_ids.specs.Choice.{nodes_of}
use Rattle.ld_config.specs.declared.config.Config.{Config}
use Rattle.ld_config.specs.Bounds.{IsInBounds}
use Rattle.ld_schedule.specs.declared.event.Event.TheVariants as events
use Rattle.ld_msg.specs.Network.{oldest_new}
use Rattle.ld_msg.specs.Sequencer.{Sequencer, released_of}
use Rattle.ld_msg.specs.Reading.{NotYet}
use Rattle.ld_msg.specs.Reader.{Reader, is_finished, verdict}
use Rattle.ld_machine.specs.Config.{has_log}
use Rattle.ld_machine.specs.State.{State, node_at}
use Rattle.ld_machine.specs.World.{In}
use Rattle.ld_machine.specs.Step as Step
use Rattle.ld_machine.specs.Calm.{Takes, Calms, Left, moved, last_of, readers_of}
use Rattle.ld_safety.proofs.Lists.{Some_inj, not_none}
use Rattle.ld_served.specs.Served.{released_by}
use Rattle.ld_served.proofs.Phases.{Parts, Unlimited}
use Rattle.ld_served.proofs.Last.{LastOf, last_is, last_none}
use Rattle.ld_served.proofs.Kept.{Good, good_parts}
use Rattle.ld_served.proofs.Replying.{names}
use Rattle.ld_served.proofs.Resting.{AtRest}
use Rattle.ld_served.proofs.Draining.{one_last}
use Rattle.ld_served.proofs.Tells.{SameReleased}
use Rattle.ld_served.proofs.Settling.{Behind, Leaves, Settled, behind_on, leaves_delivered, leaves_ticked, leaves_polled, leaves_announced, settled_parts}
use Rattle.ld_served.proofs.Round.{Sure}
use Rattle.ld_served.proofs.Gives.{CleanAll, sure_gives}

-- what stands behind a log's part
abbrev pub Ready : Config → ℕ → State → Type 0
Ready c l s = Behind c l s

-- of a log that has a sequencer, what a reader is given an item by
pub ready_facts : (c : Config) (l : ℕ) (s : State) → Ready c l s → (name : List ℕ) (q : Sequencer) → LastOf s.sequencers l name q
    → AtRest s l × CleanAll c s l × ((y : ℕ) → In y (nodes_of q.spec) → released_of q ≤ Step.released_at (node_at s y) l)
ready_facts c l s B name q L = (B.rest, λ y e i pos low. B.clean y i name q L e pos low, λ y i. subst (λ k. released_of q ≤ Step.released_at (node_at s y) k) L.log ((B.told name q L).each y i))

-- a reader below what is released isn't left waiting, where each payload that it is to be sent is held
pub ready_gives : (c : Config) → IsInBounds c → (s : State) (d : Reader) → has_log c d.log ≡ true → Ready c d.log s → (name : List ℕ) (q : Sequencer) → LastOf s.sequencers d.log name q → d.next ≤ released_of q → is_finished d ≡ false → Sure c s d → verdict d ≡ NotYet → ⊥
ready_gives c b s d log B name q L low open_still = let z = ready_facts c d.log s B name q L in sure_gives c b s B.good d log z.0 z.1 name q L low open_still z.2

-- ---- what is released ----

released_last : (c : Config) (l : ℕ) (s : State) → Good c s → (name : List ℕ) (q : Sequencer) → LastOf s.sequencers l name q → released_by (last_of s l) ≡ released_of q
released_last c l s A name q L = by_last (last_of s l) refl where
  by_last : (o : Option (List ℕ × Sequencer)) → last_of s l ≡ o → released_by o ≡ released_of q
  by_last None e = absurd (last_none s l name q e L)
  by_last (Some p) e = ap released_of (sym (one_last c s A l name p.0 q p.1 L (last_is s l p (names c s A).0 e)).1)

released_kept : (c : Config) (l : ℕ) (s t : State) → Good c s → Good c t → SameReleased s t l → released_by (last_of t l) ≤ released_by (last_of s l)
released_kept c l s t A G S = by_last (last_of t l) refl where
  by_last : (o : Option (List ℕ × Sequencer)) → last_of t l ≡ o → released_by o ≤ released_by (last_of s l)
  by_last None e = omega arith
  by_last (Some p) e = let z = S p.0 p.1 (last_is t l p (names c t G).0 e) in let u = released_last c l s A p.0 z.0 z.1 in let v = z.2 in omega arith

-- ---- a step of a calm ----

-- a step leaves it so, and releases nothing
pub record StillReady (c : Config) (l : ℕ) (s t : State) : Type 0 where
  pub ready : Ready c l t
  pub same : SameReleased s t l
  pub released : released_by (last_of t l) ≤ released_by (last_of s l)

module _ (c : Config) (b : IsInBounds c) (l : ℕ) (s : State) (B : Ready c l s) where
  still : (t : State) → Leaves c l s t → StillReady c l s t
  still t O = let S = O.released B.rest B.told in record { ready = behind_on c l s t O B; same = S; released = released_kept c l s t B.good O.good S }

  pub ready_delivered : (i : ℕ) → Unlimited (moved c s (Takes (events.Deliver i))).lines → StillReady c l s (moved c s (Takes (events.Deliver i))).state
  ready_delivered i u = still (moved c s (Takes (events.Deliver i))).state (leaves_delivered c b l s B.good i u)

  pub ready_ticked : (n k : ℕ) → Unlimited (moved c s (Takes (events.Tick n k))).lines → StillReady c l s (moved c s (Takes (events.Tick n k))).state
  ready_ticked n k u = still (moved c s (Takes (events.Tick n k))).state (leaves_ticked c b l s B.good n k u)

  pub ready_polled : (name : List ℕ) → StillReady c l s (moved c s (Takes (events.Poll name))).state
  ready_polled name = still (moved c s (Takes (events.Poll name))).state (leaves_polled c b l s B.good name)

  pub ready_announced : (k : ℕ) (q : List ℕ × Sequencer) → last_of s k ≡ Some q → q.1.gone ≡ false → StillReady c l s (moved c s (Calms q.0)).state
  ready_announced k q e g = still (moved c s (Calms q.0)).state (leaves_announced c b l s B.good k q e g)

-- ---- the whole calm ----

-- what each step keeps, whatever part it belongs to
pub each_step : (c : Config) (I : State → Type 0)
    → ((s : State) (i : ℕ) → I s → I (moved c s (Takes (events.Deliver i))).state)
    → ((s : State) (n k : ℕ) → I s → I (moved c s (Takes (events.Tick n k))).state)
    → ((s : State) (name : List ℕ) → I s → I (moved c s (Takes (events.Poll name))).state)
    → ((s : State) (k : ℕ) (q : List ℕ × Sequencer) → last_of s k ≡ Some q → q.1.gone ≡ false → I s → I (moved c s (Calms q.0)).state)
    → Parts c (λ s ps. I s)
each_step c I delivered ticks polls announces = record {
  announced = λ s k ps q h e g u. announces s k q e g h;
  silent = λ s k ps h g. h;
  settles = λ s k ps i h e u. delivered s i h;
  settled = λ s k ps h e. h;
  cleaned = λ s k n ps h e u. ticks s n k h;
  ticked = λ s k n ps h e u. ticks s n k h;
  polled = λ s name d ps h e t u. polls s name h;
  finished = λ s name ps h e. h;
  drains = λ s ps i h e u. delivered s i h;
  drained = λ s ps h e. h;
  asked = λ s name next d ps h e n u. polls s name h;
  rested = λ s name next ps h e. h;
}

-- what is kept by each part, and begins where the log is ready and nothing is new, behind the log's own part
pub ready_parts : (c : Config) (l : ℕ) (qs : List Left) (B : State → List Left → Type 0) → (b : IsInBounds c) → has_log c l ≡ true → Parts c B
    → ((s : State) → Ready c l s → oldest_new s.network ≡ None → B s qs) → Parts c (λ s ps. Settled c l qs (Good c) B s ps)
ready_parts c l qs B b log K enters = settled_parts c l qs (Good c) B b log (good_parts c b) K (λ s G R e. enters s R e)

-- each of the log's readers has its turn
pub has_turn : (l : ℕ) (name : List ℕ) (d : Reader) (ds : List (List ℕ × Reader)) → find_named name ds ≡ Some d → d.log ≡ l → In name (readers_of l ds)
unfolding find_named
has_turn l name d [] f lg = absurd (not_none f)
has_turn l name d (x ∷ ds) f lg = by_name (same name x.0) refl (λ k. has_turn l name d ds k lg) f where
  behind : (b : Bool) → In name (readers_of l ds) → In name (if b then x.0 ∷ readers_of l ds else readers_of l ds)
  behind true i = inr i
  behind false i = i

  by_name : (b : Bool) → same name x.0 ≡ b → (find_named name ds ≡ Some d → In name (readers_of l ds)) → (if b then Some x.1 else find_named name ds) ≡ Some d → In name (readers_of l (x ∷ ds))
  by_name true t ih e = subst (λ b. In name (if b then x.0 ∷ readers_of l ds else readers_of l ds)) (sym (eq-eqb x.1.log l (ap (λ (y : Reader). y.log) (Some_inj e) ∙ lg))) (inl (same-true name x.0 t))
  by_name false t ih e = behind (x.1.log == l) (ih e)
