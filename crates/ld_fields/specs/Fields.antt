-- Fields of bytes, one after the other, and the place where they go wrong.
use Rattle.std.specs.Prelude.{ℕ, ◌+◌, List, length, drop, Bool, ◌&&◌, if◌then◌else◌, nat_le}
use Rattle.byteorder.specs.Endian.{big_number}

-- a value, and the offset behind it; or the offset of the first field that is cut off or out of its range
pub data Read (X : Type 0) : Type 0 where
  Got : (value : X) (next : ℕ) → Read X
  Off : (place : ℕ) → Read X

abbrev pub follow : {X Y : Type 0} → Read X → (X → ℕ → Read Y) → Read Y
follow (Got v next) f = f v next
follow (Off place) f = Off place

-- a field that is out of its range
abbrev pub check : {X : Type 0} → Bool → ℕ → Read X → Read X
check ok at r = if ok then r else Off at

abbrev pub within : ℕ → ℕ → ℕ → Bool
within least most n = nat_le least n && nat_le n most

-- a number of n bytes, the highest first
unfoldable pub field : ℕ → List ℕ → ℕ → Read ℕ
field n bs at = if nat_le (at + n) (length bs) then Got (big_number n (drop at bs)) (at + n) else Off at

-- nothing is left
abbrev pub end_at : {X : Type 0} → List ℕ → ℕ → X → Read X
end_at bs at v = if nat_le (length bs) at then Got v at else Off at
