-- Runs that a drive goes on with.
use Rattle.std.specs.Prelude.{ℕ, ◌≡◌, List, ◌++◌, Option}
use Rattle.std.specs.Io.KnownBytes.{Appends}
use Rattle.ld_config.specs.declared.config.Config.{Config}
use Rattle.ld_schedule.specs.declared.event.Event.{Event}
use Rattle.ld_transcript.specs.Text.{text}
use Rattle.ld_machine.specs.State.{State, start}
use Rattle.ld_machine.specs.Run.{state_after, lines_of, history}
use Rattle.ld_machine.specs.Safe.{Safe}
use Rattle.ld_rounds.specs.Output.{AppendsPart}
use Rattle.ld_rounds.specs.Drives.{Driver, AreDriven, CutOr, own_lines}
use Rattle.ld_rounds.specs.declared.ended.Ended.{Ended}

-- the state to which a run of these events leads
abbrev pub reached : Config → List Event → State
reached c before = state_after c (start c) before

-- a run of these events goes on by steps of the drive, and is safe as a whole: its lines are those before and then those of these steps, of which the actor's were written
pub record RunsOn (who : Driver) (broken : Type 0) (wrote : List ℕ → Type 0) (c : Config) (before : List Event) : Type 0 where
  pub steps : List Event
  pub driven : AreDriven who broken c (reached c before) steps
  pub lines : lines_of c (start c) (before ++ steps) ≡ lines_of c (start c) before ++ lines_of c (reached c before) steps
  pub written : wrote (text (own_lines (lines_of c (reached c before) steps)))
  pub safe : Safe c (history c (before ++ steps))

-- when out of memory and where the output failed the last lines may have been written in part
abbrev pub EndsRun : Driver → Type 0 → Config → List Event → Option (List ℕ) → Option (List ℕ) → Ended → Type 0
EndsRun who broken c before old new ended = CutOr (RunsOn who broken (AppendsPart old new) c before) (RunsOn who broken (Appends old new) c before) ended
