-- A reader that is driven.
use Rattle.std.specs.Prelude.{ℕ, ◌≡◌, List, Bool, false, ◌==◌, ◌&&◌}
use Rattle.ld_config.specs.declared.config.Config.{Config}
use Rattle.ld_msg.specs.declared.msg.Msg.{Msg}
use Rattle.ld_msg.specs.declared.msg.Who.{Who}
use Rattle.ld_msg.specs.declared.msg.Who.TheVariants as whos
use Rattle.ld_msg.specs.Register.{Register}
use Rattle.ld_reader.specs.Following.{Following}
use Rattle.ld_machine.specs.State.{State}
use Rattle.ld_clients.specs.Reads.{AreReaders}

-- a state has just these readers, and a register that is told
pub record Follows (fs : List (List ℕ × Following)) (tells : Register → Type 0) (c : Config) (s : State) : Type 0 where
  pub readers : AreReaders c s fs
  pub register : tells s.register

-- it is some reader
abbrev pub ToReader : Who → Type 0
ToReader (whos.Reader r) = Unit {0}
ToReader _ = ⊥

-- it goes to the reader of this number
abbrev pub is_to : ℕ → Who → Bool
is_to number (whos.Reader r) = r == number
is_to number _ = false

-- the first reader takes a message of its log that goes to it
abbrev pub takes : ℕ → State → Msg → Bool
takes log s m = is_to 0 m.to && (m.log == log)

-- it goes to some reader, and is of this log
abbrev pub IsOf : ℕ → Msg → Type 0
IsOf l m = ToReader m.to × (m.log ≡ l)
