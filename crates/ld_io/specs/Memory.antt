-- A source and a sink in memory, as contracts see them.
use Rattle.std.specs.Prelude.{ℕ, ◌+◌, ◌-◌, ◌^◌, min, List, length, Bool, true, ◌==◌, ◌&&◌, not, nat_lt, if◌then◌else◌}
use Rattle.std.specs.List.{list_any}

-- what was given, what is left, how many calls there were, which calls are to fail, and how many have failed
pub record SourceState : Type 0 where
  pub gave : List ℕ
  pub left : List ℕ
  pub calls : ℕ
  pub fails : List ℕ
  pub faults : ℕ

-- what was written, how many bytes it may hold, how many calls there were, which calls are to fail, and how many have failed
pub record SinkState : Type 0 where
  pub written : List ℕ
  pub room : ℕ
  pub calls : ℕ
  pub fails : List ℕ
  pub faults : ℕ

-- this call, counted from 0, is one of those that are to fail
abbrev pub is_listed : ℕ → List ℕ → Bool
is_listed call fails = list_any (λ listed. listed == call) fails

-- one call more, up to the greatest 64-bit number
abbrev pub one_more : ℕ → ℕ
one_more calls = min (calls + 1) (2 ^ 64 - 1)

-- the next read succeeds: it isn't listed, and the source hasn't given all that it may
abbrev pub read_succeeds : SourceState → Bool
read_succeeds s = not (is_listed s.calls s.fails) && nat_lt (length s.gave) (2 ^ 63 - 1)

-- how many bytes the sink takes of a piece
abbrev pub taken : SinkState → List ℕ → ℕ
taken s piece = min (s.room - length s.written) (length piece)

-- the next write succeeds: it isn't listed, and takes a byte where there is one
abbrev pub write_succeeds : SinkState → List ℕ → Bool
write_succeeds s piece = not (is_listed s.calls s.fails) && (if taken s piece == 0 then length piece == 0 else true)
