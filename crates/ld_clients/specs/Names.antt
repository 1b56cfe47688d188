-- Tables under names whose values are seen as others, or are all of a kind.
use Rattle.std.specs.Prelude.{ℕ, ◌≡◌, List, [], ◌∷◌, Some}
use Rattle.ld_table.specs.Named.{find_named}

module _ {X : Type 0} where
  -- each value seen as another
  abbrev pub each_as : {Y : Type 0} → (X → Y) → List (List ℕ × X) → List (List ℕ × Y)
  each_as f [] = []
  each_as f (e ∷ m) = (e.0, f e.1) ∷ each_as f m

  -- each value that is found is such a one
  abbrev pub AllNamed : (X → Type 0) → List (List ℕ × X) → Type 0
  AllNamed P m = (name : List ℕ) (x : X) → find_named name m ≡ Some x → P x
