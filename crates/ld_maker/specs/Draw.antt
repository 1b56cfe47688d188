-- Draws: a linear congruential generator of 64 bits, whose upper 31 bits are the value of a draw.
use Rattle.std.specs.Prelude.{ℕ, ◌+◌, ◌*◌, ◌/◌, ◌%◌, ◌^◌}

-- the state after one draw
abbrev pub drawn : ℕ → ℕ
drawn x = (x * 6364136223846793005 + 1442695040888963407) % 2 ^ 64

-- the value of the draw that leads to this state
abbrev pub value_of : ℕ → ℕ
value_of x = x / 2 ^ 33
