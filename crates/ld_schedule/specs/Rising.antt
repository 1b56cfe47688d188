-- Lists of nodes that rise above a number.
use Rattle.std.specs.Prelude.{ℕ, ◌≤◌, ◌<◌, List, [], ◌∷◌, Bool, length}
use Rattle.ld_ids.specs.Set.{IsSet, members}

abbrev pub IsAbove : ℕ → ℕ → Type 0
IsAbove low n = (low < n) × (n ≤ 16)

abbrev pub IsRising : ℕ → List ℕ → Type 0
IsRising low [] = Unit {0}
IsRising low (n ∷ ns) = IsAbove low n × IsRising n ns

-- some nodes, all of them above the number
abbrev pub AreListed : ℕ → List ℕ → Type 0
AreListed low ns = IsRising low ns × (1 ≤ length ns)

abbrev pub AreAbove : ℕ → List Bool → Type 0
AreAbove low flags = IsSet flags × AreListed low (members flags)
