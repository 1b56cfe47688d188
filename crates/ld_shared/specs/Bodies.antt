-- The values of records: a program's mark, and a body behind it.
use Rattle.std.specs.Prelude.{◌≡◌, ℕ, List, ◌++◌, take, drop, map}
use Rattle.std.specs.Int.{w64, to_be_bytes}
use Rattle.ld_shared.specs.declared.mark.Mark.{Mark}

-- how many bytes stand before a body
abbrev pub mark_length : ℕ
mark_length = 24

abbrev pub body_in : List ℕ → List ℕ
body_in value = drop mark_length value

-- a value that is shorter than a mark has an empty body, which is no change
abbrev pub bodies_of : List (List ℕ) → List (List ℕ)
bodies_of values = map body_in values

-- the first bytes of a mark tell whose it is
abbrev pub owner_length : ℕ
owner_length = 16

abbrev pub owner : Mark → List ℕ
owner m = to_be_bytes w64 m.high ++ to_be_bytes w64 m.low

-- a value of this program with this body
pub record IsValueOf (own body value : List ℕ) : Type 0 where
  pub owned : take owner_length value ≡ own
  pub body_is : body_in value ≡ body
