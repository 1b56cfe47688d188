-- How long is rested between rounds, in milliseconds.
use Rattle.std.specs.Prelude.{ℕ, ◌*◌, ◌==◌, min, Bool, true, false, if◌then◌else◌}

-- the first rest
abbrev pub first_wait : ℕ
first_wait = 100

-- none where the last round gave something; else the first, or twice the one before, up to the longest
abbrev pub next_wait : Bool → ℕ → ℕ → ℕ
next_wait false wait longest = 0
next_wait true wait longest = if wait == 0 then min first_wait longest else min (wait * 2) longest
