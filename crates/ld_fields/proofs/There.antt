-- When a field is there.
use Rattle.std.proofs.Common.{◌≡◌, ◌<◌, ◌≤◌, ◌+◌, ℕ, List, length, drop, get_or, arith}
use Rattle.std.proofs.lemmas.Bool.Decides.{nat_tests}
use Rattle.std.proofs.lemmas.Grind.{common_steps}
use Rattle.byteorder.specs.Endian.{big_number}
use Rattle.ld_fields.specs.Fields.{Got, Off, field}

pub field_got : (n : ℕ) (bs : List ℕ) (at : ℕ) → at + n ≤ length bs → field n bs at ≡ Got (big_number n (drop at bs)) (at + n)
unfolding field
field_got n bs at h = grind (arith, nat_tests)

pub field_off : (n : ℕ) (bs : List ℕ) (at : ℕ) → length bs < at + n → field n bs at ≡ Off at
unfolding field
field_off n bs at h = grind (arith, nat_tests)

pub byte_is : (bs : List ℕ) (at : ℕ) → at + 1 ≤ length bs → field 1 bs at ≡ Got (get_or bs at 0) (at + 1)
unfolding field
byte_is bs at h = grind (arith, nat_tests, common_steps)
