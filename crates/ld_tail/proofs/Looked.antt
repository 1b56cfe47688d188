-- What a look leaves of a register.
use Rattle.std.proofs.Common.{◌≡◌, ◌⊎◌, ◌≤◌, ℕ, Option, Some, None, Ok, Err, refl, ap, sym, subst, inl, inr, ⊎_elim}
use Rattle.std.specs.Prelude.{IsErrOf}
use Rattle.ld_io.specs.Causes.{Rose}
use Rattle.ld_msg.specs.Register.{Register}
use Rattle.ld_register.specs.Calls.{Keeps, IsFree}
use Rattle.ld_register.specs.declared.fault.RegisterFault.{RegisterFault}
use Rattle.ld_register.specs.declared.fault.RegisterFault.TheVariants as registers
use Rattle.ld_reader.specs.Faults.{IsOfLook}
use Rattle.ld_reader.specs.declared.fault.ReaderFault.{ReaderFault}
use Rattle.ld_reader.specs.declared.fault.ReaderFault.TheVariants as readers
use Rattle.ld_rounds.specs.declared.ended.Refusal.TheVariants as refusals
use Rattle.ld_rounds.specs.declared.ended.Ended.{Ended}
use Rattle.ld_rounds.specs.declared.ended.Ended.TheVariants as ends
use Rattle.ld_rounds.specs.Refusals.{HeldNone}
use Rattle.ld_tail.specs.Looking.{look_end, register_end, why_of, same_end, IsLookEnd, HasLooked}

-- ---- one call ----

module _ (told_old told_new : Type 0) (holds_old holds_new may_old may_new : Register → Type 0) (faults_old faults_new identity_old identity_new : ℕ)
    (told : told_old → told_new) (same : (c : Register) → may_new c → may_old c) (counts : faults_old ≤ faults_new) (itself : identity_new ≡ identity_old) where
  -- it answered
  pub answer_looked : {T E : Type 0} (end : Option Ended) (v : T) (f : E) → IsErrOf {T = T} {E = E} (Ok v) f ⊎ Keeps holds_old holds_new may_old may_new → HasLooked end end told_old told_new holds_old holds_new may_old may_new faults_old faults_new identity_old identity_new
  answer_looked end v f k = record {
    stays = λ e h. h;
    ended = λ e h. inl h;
    held = inr (⊎_elim (λ x. absurd cc) (λ x. x.held) k);
    told = told;
    same = same;
    counts = counts;
    itself = itself;
  }

  -- the reader can't go on
  module _ (end : Ended) (why : IsLookEnd (HeldNone holds_old) faults_old faults_new end) where
    pub refusal_looked : (end ≡ ends.Register refusals.Failed) ⊎ Keeps holds_old holds_new may_old may_new → HasLooked None (Some end) told_old told_new holds_old holds_new may_old may_new faults_old faults_new identity_old identity_new
    refusal_looked k = record {
      stays = λ e h. absurd cc;
      ended = λ e h. inr (subst (IsLookEnd (HeldNone holds_old) faults_old faults_new) (same_end end e h) why);
      held = ⊎_elim (λ f. inl (ap (λ (x : Ended). Some x) f)) (λ x. inr x.held) k;
      told = told;
      same = same;
      counts = counts;
      itself = itself;
    }

  -- of a reader
  module _ {T : Type 0} (fault : ReaderFault) (keeps : IsErrOf {T = T} (Err fault) (readers.Register registers.Failed) ⊎ Keeps holds_old holds_new may_old may_new)
      (failed : IsErrOf {T = T} (Err fault) (readers.Register registers.Failed) → Rose faults_old faults_new) (lost : (place : ℕ) → IsErrOf {T = T} (Err fault) (readers.Register (registers.Damaged place)) → HeldNone holds_old place) where
    why_refused : IsOfLook fault → IsLookEnd (HeldNone holds_old) faults_old faults_new (look_end fault)
    why_refused (inl f) = subst (λ x. IsLookEnd (HeldNone holds_old) faults_old faults_new (look_end x)) (sym f) (failed (ap (λ (x : ReaderFault). Err x) f))
    why_refused (inr (inl d)) = subst (λ x. IsLookEnd (HeldNone holds_old) faults_old faults_new (look_end x)) (sym d.1) (lost d.0 (ap (λ (x : ReaderFault). Err x) d.1))
    why_refused (inr (inr n)) = subst (λ x. IsLookEnd (HeldNone holds_old) faults_old faults_new (look_end x)) (sym n) tt

    same_fault : (f g : ReaderFault) → IsErrOf {T = T} (Err f) g → f ≡ g
    same_fault f g h = cc

    pub reader_looked : IsOfLook fault → HasLooked None (Some (look_end fault)) told_old told_new holds_old holds_new may_old may_new faults_old faults_new identity_old identity_new
    reader_looked o = refusal_looked (look_end fault) (why_refused o) (⊎_elim (λ f. inl (ap look_end (same_fault fault (readers.Register registers.Failed) f))) (λ k. inr k) keeps)

  -- of the register
  module _ {T : Type 0} where
    pub register_looked : (fault : RegisterFault) → IsFree {T = T} (Err fault) → IsErrOf {T = T} (Err fault) registers.Failed ⊎ Keeps holds_old holds_new may_old may_new → (IsErrOf {T = T} (Err fault) registers.Failed → Rose faults_old faults_new)
        → ((place : ℕ) → IsErrOf {T = T} (Err fault) (registers.Damaged place) → HeldNone holds_old place) → HasLooked None (Some (register_end fault)) told_old told_new holds_old holds_new may_old may_new faults_old faults_new identity_old identity_new
    register_looked registers.Failed free keeps failed lost = refusal_looked (ends.Register refusals.Failed) (failed refl) (inl refl)
    register_looked (registers.Damaged place) free keeps failed lost = refusal_looked (ends.Register (refusals.Damaged place)) (lost place refl) (⊎_elim (λ x. absurd cc) (λ k. inr k) keeps)
    register_looked registers.NoMemory free keeps failed lost = refusal_looked ends.NoMemory tt (⊎_elim (λ x. absurd cc) (λ k. inr k) keeps)
    register_looked registers.LogLimit free keeps failed lost = absurd free
    register_looked (registers.Behind lce next) free keeps failed lost = absurd free
    register_looked (registers.Overtaken kept) free keeps failed lost = absurd free
    register_looked registers.EpochLimit free keeps failed lost = absurd free
    register_looked registers.GenLimit free keeps failed lost = absurd free
    register_looked registers.SwapLimit free keeps failed lost = absurd free
    register_looked registers.Full free keeps failed lost = absurd free

-- ---- the first look ----

-- behind a look that was answered no damage is found
pub undamaged : (end : Option Ended) (told_old : Type 0) (holds_mid : Register → Type 0) (faults_mid faults_new : ℕ) (place : ℕ) → (told_old → (c : Register) × holds_mid c)
    → ((e : Ended) → end ≡ Some e → (None ≡ Some e) ⊎ IsLookEnd (HeldNone holds_mid) faults_mid faults_new e) → end ≡ Some (ends.Register (refusals.Damaged place)) → told_old → ⊥
undamaged end told_old holds_mid faults_mid faults_new place whole ended h t =
    let w = whole t in
    ⊎_elim (λ x. absurd cc) (λ none. none w.0 w.1) (ended (ends.Register (refusals.Damaged place)) h)

pub damaged_by : (fault : RegisterFault) (place : ℕ) → Some (register_end fault) ≡ Some (ends.Register (refusals.Damaged place)) → fault ≡ registers.Damaged place
damaged_by (registers.Damaged q) place h = cc
damaged_by registers.Failed place h = absurd cc
damaged_by registers.NoMemory place h = absurd cc
damaged_by registers.LogLimit place h = absurd cc
damaged_by (registers.Behind lce next) place h = absurd cc
damaged_by (registers.Overtaken kept) place h = absurd cc
damaged_by registers.EpochLimit place h = absurd cc
damaged_by registers.GenLimit place h = absurd cc
damaged_by registers.SwapLimit place h = absurd cc
damaged_by registers.Full place h = absurd cc

-- ---- why the reader can't go on ----

module _ (D E : ℕ → Type 0) (k n : ℕ) where
  damaged_so : (e : Ended) → IsLookEnd D k n e → ((place : ℕ) → e ≡ ends.Register (refusals.Damaged place) → E place) → IsLookEnd E k n e
  damaged_so (ends.Register refusals.Failed) h g = h
  damaged_so (ends.Register (refusals.Damaged place)) h g = g place refl
  damaged_so (ends.Register refusals.Full) h g = absurd h
  damaged_so ends.NoMemory h g = tt
  damaged_so ends.Done h g = absurd h
  damaged_so ends.Rounds h g = absurd h
  damaged_so (ends.Preempted by) h g = absurd h
  damaged_so ends.LogLimit h g = absurd h
  damaged_so ends.EpochLimit h g = absurd h
  damaged_so ends.EpochFull h g = absurd h
  damaged_so (ends.BadFrame fault) h g = absurd h
  damaged_so (ends.BadLine line place) h g = absurd h
  damaged_so ends.Read h g = absurd h
  damaged_so ends.Write h g = absurd h

  pub why_is : (end : Option Ended) → ((e : Ended) → end ≡ Some e → (None ≡ Some e) ⊎ IsLookEnd D k n e) → ((place : ℕ) → end ≡ Some (ends.Register (refusals.Damaged place)) → E place) → IsLookEnd E k n (why_of end)
  why_is None f g = tt
  why_is (Some e) f g = ⊎_elim (λ x. absurd cc) (λ h. damaged_so e h (λ place q. g place (ap (λ (x : Ended). Some x) q))) (f e refl)
