-- What is written.
use Rattle.std.specs.Prelude.{ℕ, ◌≡◌, List, ◌++◌}

-- a part of the bytes was written behind what was written before, from the front
pub record WritesPart (old new bytes : List ℕ) : Type 0 where
  pub part : List ℕ
  pub missing : List ℕ
  pub written : new ≡ old ++ part
  pub whole : bytes ≡ part ++ missing
