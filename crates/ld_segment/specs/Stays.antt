-- What stays of a disk's bytes where some are written in their place.
use Rattle.std.specs.Prelude.{◌≡◌, ◌≤◌, ℕ, List, length, take, drop, Option, Some}
use Rattle.ld_disk.specs.Images.{Only}

-- the bytes before one place and from another one on are as they were
pub record StaysOutside (from to : ℕ) (old new : List ℕ) : Type 0 where
  pub before : take from new ≡ take from old
  pub after : drop to new ≡ drop to old
  pub no_shorter : length old ≤ length new

-- so many bytes from an offset on are as they were
abbrev pub IsSameAt : ℕ → ℕ → List ℕ → List ℕ → Type 0
IsSameAt at n old new = take n (drop at new) ≡ take n (drop at old)

-- these bytes stand at an offset
abbrev pub StandsAt : ℕ → List ℕ → List ℕ → Type 0
StandsAt at piece bytes = take (length piece) (drop at bytes) ≡ piece

module _ {D : Type 0} (seen : D → Option (List ℕ)) (may_leave : D → List ℕ → Type 0) where
  -- what is read is safe from a crash
  pub record Rests (disk : D) (bytes : List ℕ) : Type 0 where
    pub bytes_are : seen disk ≡ Some bytes
    pub stable : Only bytes (may_leave disk)
