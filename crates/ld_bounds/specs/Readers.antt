-- What holds of each reader: its numbers are in their bounds, and it holds answers of nodes alone.
use Rattle.std.specs.Prelude.{ℕ, ◌≡◌, ◌≤◌, ◌+◌, true, List, [], ◌∷◌, Option, Some, None}
use Rattle.std.specs.List.{AllByRecursion}
use Rattle.ld_ids.specs.Id.{IsNode}
use Rattle.ld_config.specs.declared.config.Config.{Config}
use Rattle.ld_msg.specs.declared.msg.Who.TheVariants as whos
use Rattle.ld_msg.specs.Bounds.{Is32, Is64, Fits, last_reader}
use Rattle.ld_msg.specs.Register.{View}
use Rattle.ld_msg.specs.Reading.{Held}
use Rattle.ld_msg.specs.Reader.{Reader}
use Rattle.ld_machine.specs.Config.{has_log}
use Rattle.ld_bounds.specs.Registers.{IsLook}

-- an answer to the reader of this number, under the node that gave it
pub record IsAnswer (number : ℕ) (h : ℕ × Held) : Type 0 where
  pub node : IsNode h.0
  pub round : Is32 h.1.round
  pub fits : Fits (whos.Node h.0) (whos.Reader number) h.1.body

-- what its last look showed
abbrev pub MayHaveSeen : Config → ℕ → Option View → Type 0
MayHaveSeen c l None = Unit {0}
MayHaveSeen c l (Some w) = Is32 w.at × IsLook c l w.at w

pub record IsReader (c : Config) (d : Reader) : Type 0 where
  pub log : has_log c d.log ≡ true
  pub number : d.number ≤ last_reader
  pub from_one : 1 ≤ d.next
  pub next : d.next ≤ d.until + 1
  pub until : Is64 d.until
  pub round : Is32 d.round
  pub held : AllByRecursion (IsAnswer d.number) d.held
  pub seen : MayHaveSeen c d.log d.seen

-- a reader under its name
abbrev pub IsNamedReader : Config → List ℕ × Reader → Type 0
IsNamedReader c d = IsReader c d.1

-- each reader's number is its place in the order of opening
abbrev pub AreInPlace : ℕ → List (List ℕ × Reader) → Type 0
AreInPlace from [] = Unit {0}
AreInPlace from (d ∷ ds) = (d.1.number ≡ from) × AreInPlace (from + 1) ds
