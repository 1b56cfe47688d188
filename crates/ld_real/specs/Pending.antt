-- Bytes on their way to a peer.
use Rattle.std.specs.Prelude.{◌++◌, ℕ, List}

-- those that the system took, and those that wait for it to
pub record Way : Type 0 where
  pub written : List ℕ
  pub waiting : List ℕ

-- all that was said
abbrev pub said_in : Way → List ℕ
said_in way = way.written ++ way.waiting
