-- Reads after a writing call that succeeded.
use Rattle.std.proofs.Common.{◌≡◌, Option, None, Some, Bool, true, false, refl, ◌==◌, if◌then◌else◌, ◌-◌, ℕ}
use Rattle.ld_disk.specs.Plain.{Plain, Call, fate, is_made, armed_after, crashed_after, read_fine, reads_fine, succeeds, after_call}
use Rattle.ld_disk.specs.declared.disk.Picture.{Picture}
use Rattle.ld_disk.specs.declared.disk.Fault.{Fault}
use Rattle.ld_disk.specs.declared.disk.Fault.TheVariants as faults
use Rattle.ld_disk.specs.declared.fate.Fate.TheVariants as fates

-- whether reads are fine after a fault of the k-th call, where that is the next one or isn't
failed_or_later : (b : Bool) (k : ℕ) → is_made (if b then fates.Fails else fates.Made) ≡ true
    → read_fine (crashed_after false (if b then fates.Fails else fates.Made)) (if b then None else Some (faults.FailAt k)) ≡ true
failed_or_later true k made = absurd (cc made)
failed_or_later false k made = refl

crashed_or_later : (b : Bool) (picture : Picture) (k : ℕ) → is_made (if b then fates.Crashes picture else fates.Made) ≡ true
    → read_fine (crashed_after false (if b then fates.Crashes picture else fates.Made)) (if b then None else Some (faults.CrashAt k picture)) ≡ true
crashed_or_later true picture k made = absurd (cc made)
crashed_or_later false picture k made = refl

fine : (crashed : Bool) (armed : Option Fault) → read_fine crashed armed ≡ true → is_made (fate crashed armed) ≡ true
    → read_fine (crashed_after crashed (fate crashed armed)) (armed_after crashed armed) ≡ true
fine true armed is made = absurd (cc is)
fine false None is made = refl
fine false (Some (faults.FailAt k)) is made = failed_or_later (k == 1) (k - 1) made
fine false (Some (faults.CrashAt k picture)) is made = crashed_or_later (k == 1) picture (k - 1) made
fine false (Some (faults.FailReadAt k)) is made = absurd (cc is)

pub fine_after : (call : Call) (p : Plain) → reads_fine p ≡ true → succeeds p ≡ true → reads_fine (after_call call p) ≡ true
fine_after call p is made = fine p.crashed p.armed is made
