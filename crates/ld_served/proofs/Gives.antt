-- Where a log is at rest and clean, a reader below the released number that has heard all nodes of its look isn't left waiting: it is given an item, asks all, or asks lost nodes once more.
use Rattle.std.proofs.Common.{◌≡◌, ◌≤◌, ◌<◌, ℕ, zero, suc, ◌+◌, ◌%◌, inl, inr, sym, subst, Bool, true, false, not, List, [], ◌∷◌, length, take, drop, Some, is_some, arith}
use Rattle.std.proofs.lemmas.Bool.{cases_lt}
use Rattle.ld_table.specs.Table.{find}
use Rattle.ld_table.specs.Words.{is_in, first, without}
use Rattle.ld_lsn.specs.Number.{epoch_of, esn_of, home_epoch}
use Rattle.ld_ids.specs.Set.{members}
use Rattle.ld_ids.specs.Choice.{nodes_of, ring, first_left}
use Rattle.ld_config.specs.declared.config.Config.{Config}
use Rattle.ld_config.specs.Bounds.{IsInBounds}
use Rattle.ld_msg.specs.Choice.{sender}
use Rattle.ld_msg.specs.Register.{lce_of}
use Rattle.ld_msg.specs.Sequencer.{Sequencer, released_of}
use Rattle.ld_msg.specs.Reading.{NotYet, sends_nothing}
use Rattle.ld_msg.specs.Reader.{Reader, Senders, is_finished, verdict}
use Rattle.ld_op.specs.Plain.{log_of}
use Rattle.ld_machine.specs.Config.{all_nodes, has_log}
use Rattle.ld_machine.specs.State.{State, node_at}
use Rattle.ld_machine.specs.Step as Step
use Rattle.ld_machine.specs.World.{In}
use Rattle.ld_safety.proofs.Lists.{Some_inj, not_none, In-append}
use Rattle.ld_safety.proofs.Members.{In_filter, In_take}
use Rattle.ld_served.proofs.Last.{LastOf}
use Rattle.ld_served.proofs.Kept.{Good}
use Rattle.ld_served.proofs.Resting.{AtRest}
use Rattle.ld_served.proofs.Round.{AllHeard, Sure, HoldsWhole, HoldsOne, by_all, by_sender, by_lost, WasLost, view_now, whole_now}
use Rattle.ld_served.proofs.Shows.{Tells, none_zero, none_tells, none_hides}
use Rattle.ld_served.proofs.NodeAnswers.{Answers, Knows, one_tells, sender_tells, Hides}
use Rattle.ld_served.proofs.Knowing.{Told, of_config, node_answers, lost_knows, zero_knows, zero_lets, closed_knows, closed_lets, open_knows, open_lets, has_epoch}

-- ---- the node that is to send a number is one of the set ----
in_drop : (k : ℕ) (x : ℕ) (xs : List ℕ) → In x (drop k xs) → In x xs
in_drop zero x xs i = i
in_drop (suc k) x [] i = i
in_drop (suc k) x (y ∷ xs) i = inr (in_drop k x xs i)

first_in : (x : ℕ) (xs : List ℕ) → first xs ≡ Some x → In x xs
first_in x [] h = absurd (not_none h)
first_in x (y ∷ xs) h = inl (sym (Some_inj h))

sender_in : (set excluded : List Bool) (n x : ℕ) → sender set excluded n ≡ Some x → In x (members set)
unfolding first_left
sender_in set excluded n x h =
    let k = (epoch_of n + esn_of n) % length (members set) in
    let i = (In_filter (λ y. not (is_in y (members excluded))) x (ring k (members set)) (first_in x (without (members excluded) (ring k (members set))) h)).0 in
    elim (In-append x (drop k (members set)) (take k (members set)) i) [ inl a ↦ in_drop k x (members set) a | inr a ↦ In_take k x (members set) a ]

-- ---- what is held ----
module _ (c : Config) (s : State) (d : Reader) (open_still : is_finished d ≡ false) (none : verdict d ≡ NotYet) where
  abbrev Shown : ℕ → Type 0
  Shown y = In y (nodes_of (view_now c s d).spec)

  module _ (answers : (y round : ℕ) → Shown y → Answers (log_of (node_at s y).plain d.log) d.next (whole_now s d.log y round d.next)) where
    -- a node that knows the number hasn't sent its whole answer
    whole_tells : (y : ℕ) → Shown y → Knows (log_of (node_at s y).plain d.log) d.next → HoldsWhole s d y → ⊥
    whole_tells y i k h = none_tells d open_still none y h.held h.found (subst (Tells d.next) (sym h.is) ((answers y h.held.round i).knows k))

    -- nor is its payload withheld where the node which is to send it was heard
    one_told : (o : Senders) → d.senders ≡ Some o → (x : ℕ) → sender o.set o.excluded d.next ≡ Some x → Shown x → (y : ℕ) → Shown y → Knows (log_of (node_at s y).plain d.log) d.next
        → (h : HoldsOne s d y o) → (f : HoldsOne s d x o) → f.held.round ≡ d.round → ⊥
    one_told o so x sx ix y iy k h f r = elim (one_tells y o.set o.excluded d.next (node_at s y).plain.generation (log_of (node_at s y).plain d.log) (Step.released_at (node_at s y) d.log) h.held.round (answers y h.held.round iy) k) [
      | inl t ↦ none_tells d open_still none y h.held h.found (subst (Tells d.next) (sym h.is) t)
      | inr t ↦ elim (sender_tells x o.set o.excluded d.next (node_at s x).plain.generation (log_of (node_at s x).plain d.log) (Step.released_at (node_at s x) d.log) f.held.round (answers x f.held.round ix) sx) [
        | inl u ↦ none_tells d open_still none x f.held f.found (subst (Tells d.next) (sym f.is) u)
        | inr u ↦ none_hides d open_still none y h.held h.found (subst (Hides y o.set o.excluded d.next) (sym h.is) t) o so x sx f.held f.found r (subst (λ b. sends_nothing d.next b ≡ true) (sym f.is) u)
      ]
    ]

    by_sure : (y : ℕ) → Shown y → Knows (log_of (node_at s y).plain d.log) d.next → ((x : ℕ) → Shown x → WasLost s d.log x d.next → Knows (log_of (node_at s x).plain d.log) d.next) → Sure c s d → ⊥
    by_sure y i k lost (by_all f) = whole_tells y i k (f y i)
    by_sure y i k lost (by_sender o so os x sx f) = let ix : Shown x = subst (λ set. In x (members set)) os (sender_in o.set o.excluded d.next x sx) in one_told o so x sx ix y i k (f y i).0 (f x ix).0 (f x ix).1
    by_sure y i k lost (by_lost x j h l) = whole_tells x j (lost x j l) h

-- ---- a state of a calm ----

-- each node is clean in each closed epoch of the log
abbrev pub CleanAll : Config → State → ℕ → Type 0
CleanAll c s l = (y e : ℕ) → In y (all_nodes c) → 0 < e → e ≤ lce_of s.register l → is_some (find e (log_of (node_at s y).plain l).summaries) ≡ true

-- the log's last sequencer has no append that waits, all epochs before its own are closed, and its nodes know what it released
module _ (c : Config) (b : IsInBounds c) (s : State) (A : Good c s) (d : Reader) (log : has_log c d.log ≡ true) (rest : AtRest s d.log) (clean : CleanAll c s d.log) (name : List ℕ) (q : Sequencer) (last : LastOf s.sequencers d.log name q)
    (low : d.next ≤ released_of q) (open_still : is_finished d ≡ false) (known : (y : ℕ) → In y (nodes_of q.spec) → released_of q ≤ Step.released_at (node_at s y) d.log) where
  closed : lce_of s.register d.log + 1 ≡ q.epoch
  closed = subst (λ l. lce_of s.register l + 1 ≡ q.epoch) last.log (rest name q last).1

  ends : Sure c s d → verdict d ≡ NotYet → Told c b s A d.log d.next log → ((y : ℕ) → In y (nodes_of (view_now c s d).spec) → (round : ℕ) → Answers (log_of (node_at s y).plain d.log) d.next (whole_now s d.log y round d.next)) → ⊥
  ends H none t f = by_sure c s d open_still none (λ y round i. f y i round) t.node t.shown t.knows (λ x i l. lost_knows c b s A d.log d.next log x (of_config c b s A d.log d.next log x i) l) H

  -- where the reader is below that, and each payload that it is to be sent is held, some row of the table holds
  pub sure_gives : Sure c s d → verdict d ≡ NotYet → ⊥
  sure_gives H none = elim (cases_lt (lce_of s.register d.log) (home_epoch d.next)) [
    | inl a ↦ ends H none (open_knows c b s A d.log d.next log name q last closed low a known)
        (λ y i round. node_answers c b s A d.log d.next log y (of_config c b s A d.log d.next log y i) (λ h. open_lets c b s A d.log d.next log name q last closed low a known y i) round)
    | inr a ↦ elim (cases_lt 0 (home_epoch d.next)) [
      | inl p ↦ ends H none (closed_knows c b s A d.log d.next log p a (λ y i. clean y (home_epoch d.next) i p a))
          (λ y i round. node_answers c b s A d.log d.next log y (of_config c b s A d.log d.next log y i) (closed_lets c b s A d.log d.next log p a (λ x j. clean x (home_epoch d.next) j p a) y (of_config c b s A d.log d.next log y i)) round)
      | inr p ↦ (let z : home_epoch d.next ≡ 0 = omega arith in
          ends H none (zero_knows c b s A d.log d.next log z (none_zero d open_still none) (has_epoch c b s A d.log d.next log name q last)) (λ y i round. node_answers c b s A d.log d.next log y (of_config c b s A d.log d.next log y i) (zero_lets c b s A d.log d.next log z (none_zero d open_still none) y) round))
    ]
  ]

  -- so it does where all nodes were heard that a look shows
  pub gives_item : AllHeard c s d → verdict d ≡ NotYet → ⊥
  gives_item H none = sure_gives H.sure none
