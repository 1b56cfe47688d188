-- What a step of an actor does.
use Rattle.std.specs.Prelude.{ℕ, ◌≡◌, List, Option, Bool, false}
use Rattle.std.specs.List.{AllByRecursion}
use Rattle.ld_machine.specs.State.{State, Done}
use Rattle.ld_transcript.specs.declared.line.Line.{Line}
use Rattle.ld_msg.specs.declared.msg.Msg.{Msg}
use Rattle.ld_rounds.specs.News.{is_answer}
use Rattle.ld_rounds.specs.Drives.{own_lines, Driver}

-- the actor represents its part of the state then, neither nodes nor messages have changed, and the lines and the messages are those, all its own
pub record IsActed (stands : State → Type 0) (s : State) (ls : List Line) (ms : List Msg) (done : Done) : Type 0 where
  pub actor : stands done.state
  pub nodes : done.state.nodes ≡ s.nodes
  pub network : done.state.network ≡ s.network
  pub lines : ls ≡ done.lines
  pub sends : ms ≡ done.sends
  pub own : own_lines ls ≡ ls
  pub asks : AllByRecursion (λ m. is_answer m ≡ false) ms

-- what an actor is called, the log that it's of, whether it takes a message in a state, and the log whose closed epochs it tells nodes of, where it does
pub record Own : Type 0 where
  pub name : List ℕ
  pub log : ℕ
  pub takes : State → Msg → Bool
  pub ticks : Option ℕ

-- it is driven under this name
abbrev pub driver : List ℕ → Own → Driver
driver name own = record { name = name; takes = own.takes; ticks = own.ticks }

-- it drives such an actor
abbrev pub IsDriverOf : Driver → Own → Type 0
IsDriverOf who own = (who.takes ≡ own.takes) × (who.ticks ≡ own.ticks)
