-- The nodes that are left round the ring of a set.
use Rattle.std.specs.Prelude.{◌≡◌, ℕ, ◌+◌, ◌%◌, Bool, false, List, [], ◌∷◌, length}
use Rattle.ld_table.specs.Words.{is_in, without}
use Rattle.ld_ids.specs.Set.{members}
use Rattle.ld_ids.specs.Choice.{ring}
use Rattle.ld_lsn.specs.Number.{epoch_of, esn_of}

-- the place in the ring where a number begins in a wave, before it is taken round
abbrev pub place_of : ℕ → ℕ → ℕ
place_of number wave = epoch_of number + esn_of number + wave

-- the nodes of a set that aren't excluded, from a place on and round
abbrev pub left_at : List Bool → List Bool → ℕ → List ℕ
left_at set excluded place = without (members excluded) (ring (place % length (members set)) (members set))

-- no node stands there twice
abbrev pub AreDistinct : List ℕ → Type 0
AreDistinct [] = Unit {0}
AreDistinct (node ∷ nodes) = (is_in node nodes ≡ false) × AreDistinct nodes
