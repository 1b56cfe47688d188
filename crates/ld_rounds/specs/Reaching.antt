-- Where a drive begins, and what it has come to.
use Rattle.std.specs.Prelude.{ℕ, ◌≡◌, nat_le, List, [], filter, Option}
use Rattle.std.specs.Io.KnownBytes.{Appends}
use Rattle.ld_config.specs.declared.config.Config.{Config}
use Rattle.ld_schedule.specs.declared.event.Event.{Event}
use Rattle.ld_transcript.specs.declared.line.Line.{Line}
use Rattle.ld_transcript.specs.Text.{text}
use Rattle.ld_machine.specs.State.{State}
use Rattle.ld_bounds.specs.Sound.{IsSound}
use Rattle.ld_dial.specs.Far.{Far}
use Rattle.ld_rounds.specs.Drives.{Driver, Goes}

-- such a sound state with these nodes, no answer of which is to be taken; each message that is new was sent
pub record Begins (P : State → Type 0) (c : Config) (s : State) (far : Far) : Type 0 where
  pub sound : IsSound c s
  pub such : P s
  pub nodes : s.nodes ≡ far.nodes
  pub answers : far.answers ≡ []
  pub sent : filter (λ i. nat_le s.network.count i) s.network.fresh ≡ []

-- such steps led to such a state with the nodes as they are told of now, and the lines that were written are the actor's of those steps
pub record Reached (who : Driver) (broken : Type 0) (steps : State → List Event → Type 0) (tells : Far → Type 0) (c : Config) (s : State) (old new : Option (List ℕ)) (P : State → Type 0) : Type 0 where
  pub state : State
  pub far : Far
  pub lines : List Line
  pub told : tells far
  pub nodes : state.nodes ≡ far.nodes
  pub goes : Goes who broken steps c s state lines
  pub written : Appends old new (text lines)
  pub such : P state
