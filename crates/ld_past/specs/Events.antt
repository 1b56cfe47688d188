-- The calls on an object of the environment, and what passed in them.
use Rattle.std.specs.Prelude.{ℕ, List, [], ◌∷◌, ◌++◌}

-- a call with its answer: its numbers, and its bytes
pub record Event : Type 0 where
  pub numbers : List ℕ
  pub bytes : List ℕ

abbrev pub event_of : List ℕ → List ℕ → Event
event_of numbers bytes = record { numbers = numbers; bytes = bytes }

-- the bytes of all calls in order; the newest call comes first in the list
abbrev pub bytes_of : List Event → List ℕ
bytes_of [] = []
bytes_of (e ∷ earlier) = bytes_of earlier ++ e.bytes
