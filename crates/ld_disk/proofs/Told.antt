-- In which of several calls a fault comes.
use Rattle.std.proofs.Common.{◌≡◌, ⊎_elim, ◌⊎◌, ℕ, ◌-◌, ◌<◌, ◌≤◌, List, [], ◌∷◌, length, Option, None, Some, true, false, ◌==◌, is_some, if◌then◌else◌, refl, sym, ◌∙◌, ap, subst, arith}
use Rattle.ld_disk.specs.Record.{State}
use Rattle.ld_disk.specs.Plain.{Plain, Call, IsTold, IsSound, called, done, is_made, crashed_after, fault_of, all_made, all_succeed, after_calls, read_fine, reads_fine, succeeds, after_call}
use Rattle.ld_disk.specs.declared.disk.Picture.{Picture}
use Rattle.ld_disk.specs.declared.disk.Fault.TheVariants as faults
use Rattle.ld_disk.specs.declared.fate.Fate.TheVariants as fates

-- a disk that stands, with this armed
abbrev with : State → ℕ → Option Picture → Plain
with s k how = record { state = s; armed = Some (fault_of k how); crashed = false }

abbrev sound : State → Plain
sound s = record { state = s; armed = None; crashed = false }

-- a call before the one that fails
step_later : (call : Call) (s : State) (k : ℕ) (how : Option Picture) → (k == 1) ≡ false
    → (succeeds (with s k how) ≡ true) × (after_call call (with s k how) ≡ with (called call None s) (k - 1) how)
step_later call s k None e = (
  ap (λ b. is_made (if b then fates.Fails else fates.Made)) e,
  λ i. record {
    state = done call (if e i then fates.Fails else fates.Made) s;
    armed = if e i then None else Some (faults.FailAt (k - 1));
    crashed = crashed_after false (if e i then fates.Fails else fates.Made);
  },
)
step_later call s k (Some picture) e = (
  ap (λ b. is_made (if b then fates.Crashes picture else fates.Made)) e,
  λ i. record {
    state = done call (if e i then fates.Crashes picture else fates.Made) s;
    armed = if e i then None else Some (faults.CrashAt (k - 1) picture);
    crashed = crashed_after false (if e i then fates.Crashes picture else fates.Made);
  },
)

abbrev pub Passes : List Call → ℕ → Option Picture → Plain → Type 0
Passes calls k how p = (all_succeed calls p ≡ true) × IsTold (k - length calls) how (after_calls calls p) × ((after_calls calls p).state ≡ all_made calls p.state)

abbrev pub Comes : List Call → Option Picture → Plain → Type 0
Comes calls how p = (all_succeed calls p ≡ false) × ((after_calls calls p).armed ≡ None) × ((after_calls calls p).crashed ≡ is_some how)

module _ (call : Call) (calls : List Call) (s : State) (k : ℕ) (how : Option Picture) (later : 1 < k) where
  step : (succeeds (with s k how) ≡ true) × (after_call call (with s k how) ≡ with (called call None s) (k - 1) how)
  step = step_later call s k how (grind arith)

  all_later : all_succeed (call ∷ calls) (with s k how) ≡ all_succeed calls (with (called call None s) (k - 1) how)
  all_later = λ i. if step.0 i then all_succeed calls (step.1 i) else false

  after_later : after_calls (call ∷ calls) (with s k how) ≡ after_calls calls (with (called call None s) (k - 1) how)
  after_later = λ i. if step.0 i then after_calls calls (step.1 i) else after_call call (with s k how)

passes : (calls : List Call) (k : ℕ) (how : Option Picture) (s : State) → length calls < k → Passes calls k how (with s k how)
passes [] k how s less = (refl, record { counts = omega (arith, less); stands = refl; told = ap (λ n. Some (fault_of n how)) (omega arith) }, refl)
passes (call ∷ calls) k how s less =
    let rest = passes calls (k - 1) how (called call None s) (omega (arith, less)) in
    let after = after_later call calls s k how (omega (arith, less)) in (
      all_later call calls s k how (omega (arith, less)) ∙ rest.0,
      record { counts = omega (arith, less); stands = ap (λ p. p.crashed) after ∙ rest.1.stands; told = ap (λ p. p.armed) after ∙ rest.1.told ∙ ap (λ n. Some (fault_of n how)) (omega arith) },
      ap (λ p. p.state) after ∙ rest.2,
    )

comes_now : (call : Call) (calls : List Call) (how : Option Picture) (s : State) → Comes (call ∷ calls) how (with s 1 how)
comes_now call calls None s = (refl, refl, refl)
comes_now call calls (Some picture) s = (refl, refl, refl)

one_or_more : (k : ℕ) → 1 ≤ k → (1 ≡ k) ⊎ (1 < k)
one_or_more k least = grind arith

comes_later : (call : Call) (calls : List Call) (k : ℕ) (how : Option Picture) (s : State) → 1 < k → Comes calls how (with (called call None s) (k - 1) how) → Comes (call ∷ calls) how (with s k how)
comes_later call calls k how s lt rest =
    let after = after_later call calls s k how lt in
    (all_later call calls s k how lt ∙ rest.0, ap (λ p. p.armed) after ∙ rest.1, ap (λ p. p.crashed) after ∙ rest.2)

comes : (calls : List Call) (k : ℕ) (how : Option Picture) (s : State) → 1 ≤ k → k ≤ length calls → Comes calls how (with s k how)
comes [] k how s least most = absurd (omega (arith, least, most))
comes (call ∷ calls) k how s least most = ⊎_elim
    (λ is. subst (λ n. Comes (call ∷ calls) how (with s n how)) is (comes_now call calls how s))
    (λ lt. comes_later call calls k how s lt (comes calls (k - 1) how (called call None s) (omega (arith, lt)) (omega (arith, most))))
    (one_or_more k least)

told_is : (k : ℕ) (how : Option Picture) (p : Plain) → IsTold k how p → with p.state k how ≡ p
told_is k how p told = λ i. record { state = p.state; armed = sym told.told i; crashed = sym told.stands i }

sound_is : (p : Plain) → IsSound p → sound p.state ≡ p
sound_is p is = λ i. record { state = p.state; armed = sym is.told i; crashed = sym is.stands i }

pub fault_comes : (calls : List Call) (k : ℕ) (how : Option Picture) (p : Plain) → IsTold k how p → k ≤ length calls → Comes calls how p
fault_comes calls k how p told most = subst (λ q. Comes calls how q) (told_is k how p told) (comes calls k how p.state told.counts most)

pub fault_passes : (calls : List Call) (k : ℕ) (how : Option Picture) (p : Plain) → IsTold k how p → length calls < k → Passes calls k how p
fault_passes calls k how p told less = subst (λ q. Passes calls k how q) (told_is k how p told) (passes calls k how p.state less)

abbrev pub Stays : List Call → Plain → Type 0
Stays calls p = (all_succeed calls p ≡ true) × IsSound (after_calls calls p) × ((after_calls calls p).state ≡ all_made calls p.state)

stays : (calls : List Call) (s : State) → Stays calls (sound s)
stays [] s = (refl, record { stands = refl; told = refl }, refl)
stays (call ∷ calls) s = stays calls (called call None s)

pub sound_stays : (calls : List Call) (p : Plain) → IsSound p → Stays calls p
sound_stays calls p is = subst (λ q. Stays calls q) (sound_is p is) (stays calls p.state)

told_fine : (k : ℕ) (how : Option Picture) → read_fine false (Some (fault_of k how)) ≡ true
told_fine k None = refl
told_fine k (Some picture) = refl

pub told_reads : (k : ℕ) (how : Option Picture) (p : Plain) → IsTold k how p → reads_fine p ≡ true
told_reads k how p told = subst (λ q. reads_fine q ≡ true) (told_is k how p told) (told_fine k how)

pub sound_reads : (p : Plain) → IsSound p → reads_fine p ≡ true
sound_reads p is = subst (λ q. reads_fine q ≡ true) (sound_is p is) refl
