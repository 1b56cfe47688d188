-- Which numbers of an epoch are stored, as flags: the first one for number 1.
use Rattle.std.specs.Prelude.{ℕ, suc, ◌-◌, List, [], ◌∷◌, Bool, if◌then◌else◌, length}

-- how many of the first flags are set: the greatest number such that it and all below are stored
abbrev pub leading : List Bool → ℕ
leading [] = 0
leading (b ∷ flags) = if b then suc (leading flags) else 0

-- how many numbers stand above it
abbrev pub above : List Bool → ℕ
above flags = length flags - leading flags

-- how many may
abbrev pub limit : ℕ
limit = 128
