-- Maps with places made beforehand: under a key stands an entry, or a place for one.
use Rattle.std.specs.Prelude.{◌≡◌, ℕ, List, [], ◌∷◌, Option, Some, None, Bool, true, false, is_some, nat_le}
use Rattle.ld_table.specs.Table.{find}
use Rattle.ld_msg.specs.declared.msg.Entry.{Entry}

module _ {X : Type 0} where
  abbrev pub filled_one : ℕ → Option X → List (ℕ × X) → List (ℕ × X)
  filled_one k None m = m
  filled_one k (Some v) m = (k, v) ∷ m

  -- the entries, without the places
  unfoldable pub filled : List (ℕ × Option X) → List (ℕ × X)
  filled [] = []
  filled (s ∷ m) = filled_one s.0 s.1 (filled m)

  -- whether a key has an entry or a place
  unfoldable pub has_place : ℕ → List (ℕ × Option X) → Bool
  has_place k m = is_some (find k m)

  -- what a test of entries lets stand: places always
  abbrev pub place_passes : (ℕ → X → Bool) → ℕ → Option X → Bool
  place_passes p k None = true
  place_passes p k (Some v) = p k v

  -- whether the least key is at most a number
  abbrev pub starts_by : ℕ → List (ℕ × X) → Bool
  starts_by t [] = false
  starts_by t (s ∷ m) = nat_le s.0 t

-- each entry stands under its own number
abbrev pub AreUnderTheirNumbers : List (ℕ × Option Entry) → Type 0
AreUnderTheirNumbers m = (k : ℕ) (e : Entry) → find k (filled m) ≡ Some e → e.number ≡ k
