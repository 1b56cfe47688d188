-- Items that tile the numbers of a log.
use Rattle.std.specs.Prelude.{◌≡◌, ◌≤◌, ◌+◌, ℕ, List, [], ◌∷◌, ◌++◌}
use Rattle.ld_msg.specs.Reading.{Item}
use Rattle.ld_msg.specs.Reader.{item_end}

-- the first stands from this number on, and each other one from the number behind the last one of the item before it; the
-- last item ends just before the other number
abbrev pub Tiles : ℕ → List (ℕ × Item) → ℕ → Type 0
Tiles from [] to = from ≡ to
Tiles from (i ∷ is) to = (i.0 ≡ from) × (from ≤ item_end from i.1) × Tiles (item_end from i.1 + 1) is to

-- the items of calls, one after the other: each call's begin where the one before it ended
abbrev pub TileByCalls : ℕ → List (List (ℕ × Item)) → ℕ → Type 0
TileByCalls from [] to = from ≡ to
TileByCalls from (is ∷ calls) to = (mid : ℕ) × Tiles from is mid × TileByCalls mid calls to

abbrev pub items_of : List (List (ℕ × Item)) → List (ℕ × Item)
items_of [] = []
items_of (is ∷ calls) = is ++ items_of calls

-- an item stands within these numbers
abbrev pub StandsWithin : ℕ → ℕ → ℕ × Item → Type 0
StandsWithin from until i = (from ≤ i.0) × (i.0 ≤ item_end i.0 i.1) × (item_end i.0 i.1 ≤ until)
