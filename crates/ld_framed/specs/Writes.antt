-- Which writes were made to the present peer, in their order.
use Rattle.std.specs.Prelude.{◌≡◌, ℕ, List, [], ◌∷◌, ◌++◌}
use Rattle.ld_past.specs.Events.{Event}
use Rattle.ld_link.specs.Calls.{wrote}

-- writes and no other call, which together are these bytes
pub data Writes (old : List Event) : List Event → List ℕ → Type 0 where
  none : Writes old old []
  more : (mid : List Event) (before piece : List ℕ) → Writes old mid before → Writes old (wrote piece ∷ mid) (before ++ piece)

-- writes of a part of the bytes, from the front
pub record WritesPart (old new : List Event) (bytes : List ℕ) : Type 0 where
  pub part : List ℕ
  pub missing : List ℕ
  pub whole : bytes ≡ part ++ missing
  pub writes : Writes old new part
