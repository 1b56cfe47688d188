-- The transcript of a run, its steps and the trace of what they take are of one run.
use Rattle.std.specs.Prelude.{◌≡◌, List, filter, flat_map, Bool, true, false}
use Rattle.ld_schedule.specs.declared.event.Event.{Event}
use Rattle.ld_transcript.specs.declared.line.Line.{Line}
use Rattle.ld_transcript.specs.declared.line.Line.TheVariants as lines
use Rattle.ld_config.specs.declared.config.Config.{Config}
use Rattle.ld_machine.specs.State.{start}
use Rattle.ld_machine.specs.Facts.{Happened}
use Rattle.ld_machine.specs.World.{begin}
use Rattle.ld_machine.specs.Run.{history, lines_of, state_after, moves, trace, world_after}

-- any line but `none`
abbrev pub says_something : Line → Bool
says_something lines.Nothing = false
says_something _ = true

-- the lines of some steps, in their order
abbrev pub lines_in : List Happened → List Line
lines_in hs = flat_map (λ h. h.lines) hs

-- but for `none`, the lines of a run's steps are those of its transcript; a flow that delivers nothing is no step, and its line is `none`
abbrev pub AreOneRun : Config → List Event → Type 0
AreOneRun c es = filter says_something (lines_in (history c es)) ≡ filter says_something (lines_of c (start c) es)

abbrev pub LinesAreTheSteps : Type 0
LinesAreTheSteps = (c : Config) (es : List Event) → AreOneRun c es

-- the steps of a run are the trace of what they take, which leads to the run's state
abbrev pub StepsAreTheTrace : Type 0
StepsAreTheTrace = (c : Config) (es : List Event) → (trace c (begin c) (moves c es) ≡ history c es) × ((world_after c (begin c) (moves c es)).state ≡ state_after c (start c) es)
