-- What is written.
use Rattle.std.specs.Prelude.{ℕ, ◌≡◌, List, ◌++◌, Option}
use Rattle.std.specs.Io.KnownBytes.{Appends}
use Rattle.ld_io.specs.Causes.{Rose}
use Rattle.ld_rounds.specs.declared.ended.Ended.{Ended}
use Rattle.ld_rounds.specs.declared.ended.Ended.TheVariants as ends

-- a part of the bytes was written, from the front
pub record AppendsPart (old new : Option (List ℕ)) (bytes : List ℕ) : Type 0 where
  pub part : List ℕ
  pub missing : List ℕ
  pub written : Appends old new part
  pub whole : bytes ≡ part ++ missing

-- the output failed, or memory ended
abbrev pub WritesFault : ℕ → ℕ → Ended → Type 0
WritesFault before now ends.Write = Rose before now
WritesFault before now ends.NoMemory = Unit {0}
WritesFault before now _ = ⊥
