-- A round ended since the register refused.
use Rattle.std.proofs.Common.{◌≡◌, ◌⊎◌, arith, inl, inr, ⊎_elim, ℕ, Bool, List, Option, Some, None, Ok, Err, IfErr, refl, sym, subst, ap}
use Rattle.std.specs.declared.result.Result.{Result}
use Rattle.ld_config.specs.declared.config.Config.{Config}
use Rattle.ld_config.specs.Bounds.{IsInBounds}
use Rattle.ld_ids.specs.Set.{members}
use Rattle.ld_schedule.specs.declared.event.Event.{Event}
use Rattle.ld_schedule.specs.declared.event.Event.TheVariants as events
use Rattle.ld_transcript.specs.Text.{text}
use Rattle.ld_msg.specs.Register.{Register}
use Rattle.ld_machine.specs.State.{State}
use Rattle.ld_dial.specs.Far.{Far}
use Rattle.ld_rounds.specs.Drives.{CallCounts, HasBroken}
use Rattle.ld_rounds.specs.declared.ended.Refusal.{Refusal}
use Rattle.ld_rounds.specs.declared.ended.Ended.{Ended}
use Rattle.ld_rounds.specs.declared.ended.Ended.TheVariants as ends
use Rattle.ld_rounds.specs.Input.{Input}
use Rattle.ld_rounds.specs.Rounds.{IsOne, FeedsUntil, AppendsUntil}
use Rattle.ld_wire.specs.declared.fault.WireFault.{WireFault}
use Rattle.ld_rounds.specs.Endings.{IsLater, SaysWhy, IsOffAs, EndsOff}
use Rattle.ld_rounds.specs.Feeding.{IsAppendEnding}
use Rattle.ld_rounds.specs.Refusals.{IsRefusal}
use Rattle.ld_rounds.proofs.Feeding.{append_since, same_here}
use Rattle.ld_rounds.proofs.Joining.{splits_as}
use Rattle.ld_rounds.proofs.Steps.{goes_if}
use Rattle.ld_rounds.proofs.Writing.{all_written}
use Rattle.ld_append.specs.Refusing.{kept_end, round_end}
use Rattle.ld_append.specs.Appends.{sequencing, EndAt, IsAppended, DroveAppend, IsDriveEnding, IsRefused}

-- it is kept why, or it ends when out of memory
pub kept_cases : (kept : Option Ended) → ((r : Refusal) × (kept ≡ Some (ends.Register r)) × (kept_end kept ≡ ends.Register r)) ⊎ (kept_end kept ≡ ends.NoMemory)
kept_cases (Some (ends.Register r)) = inl (r, refl, refl)
kept_cases None = inr refl
kept_cases (Some ends.Done) = inr refl
kept_cases (Some ends.Rounds) = inr refl
kept_cases (Some (ends.Preempted by)) = inr refl
kept_cases (Some ends.LogLimit) = inr refl
kept_cases (Some ends.EpochLimit) = inr refl
kept_cases (Some ends.EpochFull) = inr refl
kept_cases (Some (ends.BadFrame fault)) = inr refl
kept_cases (Some (ends.BadLine line place)) = inr refl
kept_cases (Some ends.Read) = inr refl
kept_cases (Some ends.Write) = inr refl
kept_cases (Some ends.NoMemory) = inr refl

-- it didn't end by the register
abbrev Otherwise : Result Bool Ended → Type 0
Otherwise (Err (ends.Register r)) = ⊥
Otherwise _ = Unit {0}

round_cases : (kept : Option Ended) (r : Result Bool Ended) → ((f : Refusal) × (r ≡ Err (ends.Register f)) × (round_end kept r ≡ Err (kept_end kept))) ⊎ ((round_end kept r ≡ r) × Otherwise r)
round_cases kept (Err (ends.Register f)) = inl (f, refl, refl)
round_cases kept (Ok v) = inr (refl, tt)
round_cases kept (Err ends.Done) = inr (refl, tt)
round_cases kept (Err ends.Rounds) = inr (refl, tt)
round_cases kept (Err (ends.Preempted by)) = inr (refl, tt)
round_cases kept (Err ends.LogLimit) = inr (refl, tt)
round_cases kept (Err ends.EpochLimit) = inr (refl, tt)
round_cases kept (Err ends.EpochFull) = inr (refl, tt)
round_cases kept (Err (ends.BadFrame fault)) = inr (refl, tt)
round_cases kept (Err (ends.BadLine line place)) = inr (refl, tt)
round_cases kept (Err ends.Read) = inr (refl, tt)
round_cases kept (Err ends.Write) = inr (refl, tt)
round_cases kept (Err ends.NoMemory) = inr (refl, tt)

-- what is so of a result, where it is so of one that didn't end by the register, and of what is kept
by_round : (P : Result Bool Ended → Type 0) (kept : Option Ended) (r : Result Bool Ended) → (Otherwise r → P r) → ((f : Refusal) → r ≡ Err (ends.Register f) → P (Err (kept_end kept))) → P (round_end kept r)
by_round P kept r f g = ⊎_elim (λ x. subst P (sym x.2) (g x.0 x.1)) (λ x. subst P (sym x.0) (f x.1)) (round_cases kept r)

-- what is so of the end that is kept
by_kept : (P : Ended → Type 0) (kept : Option Ended) → P ends.NoMemory → ((r : Refusal) → kept ≡ Some (ends.Register r) → P (ends.Register r)) → P (kept_end kept)
by_kept P kept f g = ⊎_elim (λ x. subst P (sym x.2) (g x.0 x.1)) (λ x. subst P (sym x) f) (kept_cases kept)

-- ---- why ----

unrefused : (damaged : ℕ → Type 0) (whole : Type 0) (before now : ℕ) (r : Result Bool Ended) → Otherwise r → IfErr r (IsRefused damaged whole before now)
unrefused damaged whole before now (Ok v) o = tt
unrefused damaged whole before now (Err (ends.Register f)) o = absurd o
unrefused damaged whole before now (Err ends.Done) o = tt
unrefused damaged whole before now (Err ends.Rounds) o = tt
unrefused damaged whole before now (Err (ends.Preempted by)) o = tt
unrefused damaged whole before now (Err ends.LogLimit) o = tt
unrefused damaged whole before now (Err ends.EpochLimit) o = tt
unrefused damaged whole before now (Err ends.EpochFull) o = tt
unrefused damaged whole before now (Err (ends.BadFrame fault)) o = tt
unrefused damaged whole before now (Err (ends.BadLine line place)) o = tt
unrefused damaged whole before now (Err ends.Read) o = tt
unrefused damaged whole before now (Err ends.Write) o = tt
unrefused damaged whole before now (Err ends.NoMemory) o = tt

pub round_refused : (damaged : ℕ → Type 0) (whole : Type 0) (before now : ℕ) (kept : Option Ended) (r : Result Bool Ended)
    → ((q : Refusal) → kept ≡ Some (ends.Register q) → IsRefusal (λ place. (now ≡ before) × damaged place) ((now ≡ before) × whole) before now q) → IfErr (round_end kept r) (IsRefused damaged whole before now)
round_refused damaged whole before now kept r h = by_round (λ x. IfErr x (IsRefused damaged whole before now)) kept r (λ o. unrefused damaged whole before now r o) (λ f e. by_kept (IsRefused damaged whole before now) kept tt h)

pub round_off : (off : Option WireFault) (kept : Option Ended) (r : Result Bool Ended) → IfErr r (IsOffAs off) → IfErr (round_end kept r) (IsOffAs off)
round_off off kept r h = by_round (λ x. IfErr x (IsOffAs off)) kept r (λ o. h) (λ f e. by_kept (IsOffAs off) kept tt (λ q x. tt))

pub round_ends : (off : Option WireFault) (kept : Option Ended) (r : Result Bool Ended) → EndsOff off r → EndsOff off (round_end kept r)
round_ends None kept r h = tt
round_ends (Some fault) kept r h = ap (round_end kept) h

module _ (crowded : Type 0) (damaged : ℕ → Type 0) (i : Option Input) (p q k m : ℕ) (a c : Option (List ℕ)) where
  says_as : (f r : Refusal) → SaysWhy a c (ends.Register f) → SaysWhy a c (ends.Register r)
  says_as f r h = record { before = h.before; lines = h.lines; written = h.written; said = h.said }

  later : (n : ℕ) (b : Option (List ℕ)) (r : Result Bool Ended) → IsLater k n a b → IfErr r (IsAppendEnding i p q n m b c) → IfErr r (IsAppendEnding i p q k m a c)
  later n b (Ok v) l h = tt
  later n b (Err e) l h = append_since i i p p q k n m a b c e (same_here i) (omega arith) l h

  driven : (r : Result Bool Ended) → IfErr r (IsAppendEnding i p q k m a c) → IfErr r (IsDriveEnding crowded damaged i p q k m a c)
  driven (Ok v) h = tt
  driven (Err e) h = inr h

  pub round_cause : (n : ℕ) (b : Option (List ℕ)) (kept : Option Ended) (r : Result Bool Ended) → IsLater k n a b → IfErr r (IsAppendEnding i p q n m b c) → IfErr (round_end kept r) (IsDriveEnding crowded damaged i p q k m a c)
  round_cause n b kept r l h =
      let j = later n b r l h in
      by_round (λ x. IfErr x (IsDriveEnding crowded damaged i p q k m a c)) kept r (λ o. driven r j) (λ f e. by_kept (IsDriveEnding crowded damaged i p q k m a c) kept (inl tt) (λ x y. inr (says_as f x (subst (λ z. IfErr z (IsAppendEnding i p q k m a c)) e j))))

-- ---- what it has come to ----

module _ (name : List ℕ) (l : ℕ) (counts : CallCounts) (coming : Option Input) (most : ℕ) (tells : Config → Far → Type 0) (U : Register → Type 0) (c : Config) (b : IsInBounds c) (s : State) (old new : Option (List ℕ)) where
  abbrev at : Ended → State → List Event → Type 0
  at e = EndAt name l c s.network.count counts coming most e

  -- by another end, at which the payloads are told of alike
  end_as : (f e : Ended) → ((t : State) (es : List Event) → FeedsUntil c coming f t es → FeedsUntil c coming e t es) → (t : State) (es : List Event) → at f t es → at e t es
  end_as f e g t es (inl h) = inl (h.0, g t es h.1)
  end_as f e g t es (inr h) = inr (record {
    rounds = h.rounds;
    below = h.below;
    goes = splits_as c (IsOne (events.Activate name l)) (AppendsUntil name c s.network.count (members c.nodes) counts coming f h.rounds) (IsOne (events.Activate name l)) (AppendsUntil name c s.network.count (members c.nodes) counts coming e h.rounds) t es (λ u fs x. x) (λ u fs x. (x.0, g u fs x.1)) h.goes;
  })

  fed_refused : (i : Option Input) (f r : Refusal) (t : State) (es : List Event) → FeedsUntil c i (ends.Register f) t es → FeedsUntil c i (ends.Register r) t es
  fed_refused None f r t es h = tt
  fed_refused (Some i) f r t es h = h

  fed_cut : (i : Option Input) (f : Refusal) (t : State) (es : List Event) → FeedsUntil c i (ends.Register f) t es → FeedsUntil c i ends.NoMemory t es
  fed_cut None f t es h = tt
  fed_cut (Some i) f t es h = h

  refused_as : (f r : Refusal) → IsAppended name l counts coming most tells U c s old new (ends.Register f) → IsAppended name l counts coming most tells U c s old new (ends.Register r)
  refused_as f r g = record {
    state = g.state;
    far = g.far;
    lines = g.lines;
    told = g.told;
    nodes = g.nodes;
    goes = goes_if (sequencing name) (HasBroken counts) c (HasBroken counts) (at (ends.Register f)) (at (ends.Register r)) s g.state g.lines (λ x. x) (λ es e x. end_as (ends.Register f) (ends.Register r) (fed_refused coming f r) s es x) g.goes;
    written = g.written;
    such = g.such;
  }

  refused_cut : (f : Refusal) → IsAppended name l counts coming most tells U c s old new (ends.Register f) → IsAppended name l counts coming most tells U c s old new ends.NoMemory
  refused_cut f g = record {
    state = g.state;
    lines = g.lines;
    goes = goes_if (sequencing name) (HasBroken counts) c (HasBroken counts) (at (ends.Register f)) (at ends.NoMemory) s g.state g.lines (λ x. x) (λ es e x. end_as (ends.Register f) ends.NoMemory (fed_cut coming f) s es x) g.goes;
    written = all_written old new (text g.lines) g.written;
  }

  round_drove : (kept : Option Ended) (r : Result Bool Ended) → DroveAppend name l counts coming most tells U c s old new r → DroveAppend name l counts coming most tells U c s old new (round_end kept r)
  round_drove kept r g = by_round (λ x. DroveAppend name l counts coming most tells U c s old new x) kept r (λ o. g)
      (λ f e. let h : DroveAppend name l counts coming most tells U c s old new (Err (ends.Register f)) = subst (λ (x : Result Bool Ended). DroveAppend name l counts coming most tells U c s old new x) e g in by_kept (IsAppended name l counts coming most tells U c s old new) kept (refused_cut f h) (λ x y. refused_as f x h))

  pub round_loud : (Y : Type 0) (kept : Option Ended) (r : Result Bool Ended) → Y ⊎ DroveAppend name l counts coming most tells U c s old new r → Y ⊎ DroveAppend name l counts coming most tells U c s old new (round_end kept r)
  round_loud Y kept r (inl y) = inl y
  round_loud Y kept r (inr g) = inr (round_drove kept r g)
