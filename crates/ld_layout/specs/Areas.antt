-- Areas of a disk, each an offset and a length, and where the next one lies.
use Rattle.std.specs.Prelude.{◌≡◌, ◌≢◌, ◌⊎◌, ◌≤◌, ◌<◌, ℕ, ◌+◌, max, List, [], ◌∷◌, Some, Bool, true, ◌&&◌, nat_lt, nat_le, if◌then◌else◌}
use Rattle.ld_table.specs.Table.{find, Ordered}
use Rattle.ld_table.specs.Words.{is_in}

-- the offset behind an area
abbrev pub end_of : ℕ × ℕ → ℕ
end_of a = a.0 + a.1

-- an offset lies in an area
abbrev pub is_inside : ℕ × ℕ → ℕ → Bool
is_inside a at = nat_le a.0 at && nat_lt at (end_of a)

-- so many bytes from an offset on share none with an area
abbrev pub IsApart : ℕ → ℕ → ℕ × ℕ → Type 0
IsApart size at a = (at + size ≤ a.0) ⊎ (end_of a ≤ at)

-- nor with any of these
abbrev pub IsFree : ℕ → ℕ → List (ℕ × ℕ) → Type 0
IsFree size at [] = Unit {0}
IsFree size at (a ∷ areas) = IsApart size at a × IsFree size at areas

-- areas whose offsets don't fall, from an offset on
abbrev pub RiseFrom : ℕ → List (ℕ × ℕ) → Type 0
RiseFrom from [] = Unit {0}
RiseFrom from (a ∷ areas) = (from ≤ a.0) × RiseFrom a.0 areas

abbrev pub Rise : List (ℕ × ℕ) → Type 0
Rise areas = RiseFrom 0 areas

-- areas by offset, no two of which share a byte
pub record AreLive (areas : List (ℕ × ℕ)) : Type 0 where
  pub ordered : Ordered areas
  pub apart : (k l v w : ℕ) → find k areas ≡ Some v → find l areas ≡ Some w → k ≢ l → (k + v ≤ l) ⊎ (l + w ≤ k)

-- an area that is found, and at least so long
pub record IsLonger (length k : ℕ) (areas : List (ℕ × ℕ)) : Type 0 where
  pub here : ℕ
  pub found : find k areas ≡ Some here
  pub longer : length ≤ here

-- each area of the first stands among the others, and isn't longer there
abbrev pub AreShrunk : List (ℕ × ℕ) → List (ℕ × ℕ) → Type 0
AreShrunk kept areas = (k v : ℕ) → find k kept ≡ Some v → IsLonger v k areas

-- the least offset from one on at which so many bytes overlap none of the areas, which rise
abbrev pub least_place : ℕ → ℕ → List (ℕ × ℕ) → ℕ
least_place size at [] = at
least_place size at (a ∷ areas) = if nat_le (at + size) a.0 then at else least_place size (max at (end_of a)) areas

-- these offsets lie in one of the areas, before its last byte, which is a gate
pub record IsInside (ks : List ℕ) (areas : List (ℕ × ℕ)) : Type 0 where
  pub place : ℕ
  pub length : ℕ
  pub found : find place areas ≡ Some length
  pub within : (k : ℕ) → is_in k ks ≡ true → (place ≤ k) × (k + 1 < place + length)

-- no offsets lie anywhere
abbrev pub IsHeld : List ℕ → List (ℕ × ℕ) → Type 0
IsHeld [] areas = Unit {0}
IsHeld (k ∷ ks) areas = IsInside (k ∷ ks) areas
