-- Lists of records that only grow, and what stands under a number.
use Rattle.std.specs.Prelude.{◌≡◌, ◌≢◌, ◌+◌, ℕ, List, [], ◌∷◌, ◌++◌, take}

-- what was there stands, with more behind it or with nothing
pub record Grows (old new : List (List ℕ)) : Type 0 where
  pub more : List (List ℕ)
  pub is : new ≡ old ++ more

-- the record of this number has this value
abbrev pub IsAt : ℕ → List ℕ → List (List ℕ) → Type 0
IsAt n value all = take (n + 1) all ≡ take n all ++ value ∷ []

-- the record of this number has another value than this one
pub record IsTaken (n : ℕ) (value : List ℕ) (all : List (List ℕ)) : Type 0 where
  pub other : List ℕ
  pub there : IsAt n other all
  pub differs : other ≢ value
