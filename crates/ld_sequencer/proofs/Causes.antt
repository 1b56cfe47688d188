-- Why a register's refusals come.
use Rattle.std.proofs.Common.{◌≡◌, ◌⊎◌, inl, inr, ℕ, Bool, true, false, Option, Result, Err, IsErrOf, if◌then◌else◌, refl, ap, sym, subst, ◌∙◌}
use Rattle.ld_ids.specs.declared.set.Spec.{Spec}
use Rattle.ld_msg.specs.Register.{Register, Answer, Granted, AtLimit, Behind, Overtaken, Fails, is_crowded}
use Rattle.ld_register.specs.declared.fault.RegisterFault.{RegisterFault}
use Rattle.ld_register.specs.declared.fault.RegisterFault.TheVariants as registers
use Rattle.ld_register.specs.Calls.{IsFree, close_ended, is_full, closed, next_told, close_length}
use Rattle.ld_sequencer.specs.declared.close.Due.{Due}
use Rattle.ld_sequencer.specs.declared.fault.SequencerFault.{SequencerFault}
use Rattle.ld_sequencer.specs.declared.fault.SequencerFault.TheVariants as faults
use Rattle.ld_sequencer.specs.Register.{closes_due, left_by_due, of_register}
use Rattle.ld_sequencer.specs.Whole.{IsCaused, IsUntimely}

-- ---- the limit of logs ----

abbrev Ended : Type 0
Ended = Result (Option Spec) RegisterFault

abbrev closing_err : RegisterFault → Ended
closing_err f = Err f

-- where there is room for one more log, a close isn't refused for the limit of logs
no_limit : (a : Answer) (full : Bool) (before after : Option Spec) → close_ended a full before after ≡ closing_err registers.LogLimit → ⊥
no_limit Granted full before after h = absurd cc
no_limit AtLimit full before after h = absurd cc
no_limit (Behind lce) full before after h = absurd cc
no_limit (Overtaken kept) full before after h = absurd cc
no_limit Fails true before after h = absurd cc
no_limit Fails false before after h = absurd cc

crowded_if : (b : Bool) (r : Ended) → (r ≡ closing_err registers.LogLimit → ⊥) → (if b then closing_err registers.LogLimit else r) ≡ closing_err registers.LogLimit → b ≡ true
crowded_if true r n h = refl
crowded_if false r n h = absurd (n h)

crowded_by : (c : Register) (l : ℕ) (t : Due) → closed c l t.epoch t.summary t.short ≡ closing_err registers.LogLimit → is_crowded c l ≡ true
crowded_by c l t h = crowded_if (is_crowded c l) (close_ended (closes_due c l t).answer (is_full c close_length) (next_told c l) (next_told (left_by_due c l t) l)) (no_limit (closes_due c l t).answer (is_full c close_length) (next_told c l) (next_told (left_by_due c l t) l)) h

limit_of : (r : Ended) (c : Register) (l : ℕ) (t : Due) (K : Type 0) → r ≡ Err registers.LogLimit → IsFree r ⊎ ((r ≡ closed c l t.epoch t.summary t.short) × K) → is_crowded c l ≡ true
limit_of r c l t K h (inl p) = absurd (subst IsFree h p)
limit_of r c l t K h (inr p) = crowded_by c l t (sym p.0 ∙ h)

limited : (r : Ended) (l : ℕ) (t : Due) (holds now : Register → Type 0) → r ≡ Err registers.LogLimit → IsFree r ⊎ ((c : Register) × holds c) → ((c : Register) → holds c → IsFree r ⊎ ((r ≡ closed c l t.epoch t.summary t.short) × now c)) → (c : Register) × holds c × (is_crowded c l ≡ true)
limited r l t holds now h (inl p) f = absurd (subst IsFree h p)
limited r l t holds now h (inr p) f = (p.0, p.1, limit_of r p.0 l t (now p.0) h (f p.0 p.1))

-- ---- a close ----

abbrev Passed : RegisterFault → Type 0
Passed f = (of_register f ≡ faults.NoMemory) ⊎ IsUntimely (of_register f)

module _ {X : Type 0} where
  unlike : (s : SequencerFault) → (s ≡ faults.NoMemory → ⊥) → (IsUntimely s → ⊥) → (s ≡ faults.NoMemory) ⊎ IsUntimely s → X
  unlike s n u (inl p) = absurd (n p)
  unlike s n u (inr p) = absurd (u p)

cause_of : (f : RegisterFault) (r : Ended) (l : ℕ) (t : Due) (holds now : Register → Type 0) (damaged : ℕ → Type 0) → r ≡ Err f → Passed f
    → IsFree r ⊎ ((c : Register) × holds c) → ((c : Register) → holds c → IsFree r ⊎ ((r ≡ closed c l t.epoch t.summary t.short) × now c)) → ((place : ℕ) → IsErrOf r (registers.Damaged place) → damaged place) → IsCaused holds damaged l (of_register f)
cause_of registers.NoMemory r l t holds now damaged h k w f d = tt
cause_of registers.Failed r l t holds now damaged h k w f d = unlike (faults.Register registers.Failed) (λ p. cc) (λ p. p) k
cause_of (registers.Damaged place) r l t holds now damaged h k w f d = d place h
cause_of registers.LogLimit r l t holds now damaged h k w f d = limited r l t holds now h w f
cause_of (registers.Behind lce next) r l t holds now damaged h k w f d = unlike (faults.Register (registers.Behind lce next)) (λ p. cc) (λ p. p) k
cause_of (registers.Overtaken kept) r l t holds now damaged h k w f d = unlike (faults.Register (registers.Overtaken kept)) (λ p. cc) (λ p. p) k
cause_of registers.EpochLimit r l t holds now damaged h k w f d = unlike (faults.Register registers.EpochLimit) (λ p. cc) (λ p. p) k
cause_of registers.GenLimit r l t holds now damaged h k w f d = unlike (faults.Register registers.GenLimit) (λ p. cc) (λ p. p) k
cause_of registers.SwapLimit r l t holds now damaged h k w f d = unlike (faults.Register registers.SwapLimit) (λ p. cc) (λ p. p) k
cause_of registers.Full r l t holds now damaged h k w f d = unlike (faults.Register registers.Full) (λ p. cc) (λ p. p) k

pub close_cause : (f : RegisterFault) (s : SequencerFault) (r : Ended) (l : ℕ) (t : Due) (holds now : Register → Type 0) (damaged : ℕ → Type 0) → r ≡ Err f → s ≡ of_register f → (s ≡ faults.NoMemory) ⊎ IsUntimely s
    → IsFree r ⊎ ((c : Register) × holds c) → ((c : Register) → holds c → IsFree r ⊎ ((r ≡ closed c l t.epoch t.summary t.short) × now c)) → ((place : ℕ) → IsErrOf r (registers.Damaged place) → damaged place) → IsCaused holds damaged l s
close_cause f s r l t holds now damaged h e k w m d = subst (IsCaused holds damaged l) (sym e) (cause_of f r l t holds now damaged h (subst (λ x. (x ≡ faults.NoMemory) ⊎ IsUntimely x) e k) w m d)

-- ---- a fault that passes ----

of_damaged : (f : RegisterFault) (place : ℕ) → of_register f ≡ faults.Register (registers.Damaged place) → f ≡ registers.Damaged place
of_damaged registers.NoMemory place h = absurd cc
of_damaged registers.Failed place h = absurd cc
of_damaged (registers.Damaged p) place h = cc
of_damaged registers.LogLimit place h = absurd cc
of_damaged (registers.Behind lce next) place h = absurd cc
of_damaged (registers.Overtaken kept) place h = absurd cc
of_damaged registers.EpochLimit place h = absurd cc
of_damaged registers.GenLimit place h = absurd cc
of_damaged registers.SwapLimit place h = absurd cc
of_damaged registers.Full place h = absurd cc

same_fault : {U : Type 0} (s t : SequencerFault) → IsErrOf {T = U} (Err s) t → s ≡ t
same_fault s t h = cc

pub damaged_of : {T U : Type 0} (f : RegisterFault) (s : SequencerFault) (r : Result T RegisterFault) (place : ℕ) → r ≡ Err f → s ≡ of_register f → IsErrOf {T = U} (Err s) (faults.Register (registers.Damaged place)) → IsErrOf r (registers.Damaged place)
damaged_of f s r place h t k = h ∙ ap Err (of_damaged f place (sym t ∙ same_fault s (faults.Register (registers.Damaged place)) k))
