-- What the body of a head tells.
use Rattle.std.proofs.Common.{◌≡◌, ◌<◌, ◌^◌, ℕ, List, drop, ◌++◌, ap}
use Rattle.byteorder.specs.Endian.{big_bytes}
use Rattle.ld_segment.specs.Slots.{head_bytes}
use Rattle.ld_segment.proofs.CurrentSlots.{place_of}

-- it tells one place
pub names_one : (m n : ℕ) → m < 2 ^ 64 → n < 2 ^ 64 → head_bytes m ≡ head_bytes n → m ≡ n
names_one m n fits_m fits_n same = place_of 0 m 0 n fits_m fits_n (ap (λ (l : List ℕ). big_bytes 8 0 ++ drop 1 l) same)
