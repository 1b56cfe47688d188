-- The run of a made schedule, and how a call ends that plays it and writes its summary.
use Rattle.std.specs.Prelude.{ℕ, ◌≡◌, ◌+◌, ◌*◌, ◌^◌, List, Option}
use Rattle.std.specs.Io.KnownBytes.{Appends}
use Rattle.ld_schedule.specs.declared.event.Event.{Event}
use Rattle.ld_transcript.specs.declared.line.Line.{Line}
use Rattle.ld_machine.specs.State.{start}
use Rattle.ld_machine.specs.Run.{lines_of, state_after}
use Rattle.ld_cluster.specs.Standing.{config_of, state_of, IsReached}
use Rattle.ld_cluster.specs.declared.cluster.Cluster.{Cluster}
use Rattle.ld_maker.specs.Made.{made_config, made}
use Rattle.ld_maker.specs.Tally.{HasRoom, tally, summary}
use Rattle.ld_maker.specs.declared.tally.Tally.{Tally}
use Rattle.ld_cli.specs.Ends.{IsSafe, IsSilent}
use Rattle.ld_rounds.specs.Output.{AppendsPart}
use Rattle.ld_cli.specs.declared.status.Stop.{Stop}
use Rattle.ld_cli.specs.declared.status.Stop.TheVariants.{BadSchedule, NoMemory, Read, Write}
use Rattle.ld_cli.specs.declared.status.Status.{Status}
use Rattle.ld_cli.specs.declared.status.Status.TheVariants as statuses

-- the lines of the run of a made schedule, of so many events behind the first seven
abbrev pub made_lines : ℕ → ℕ → List Line
made_lines seed m = lines_of made_config (start made_config) (made seed m)

-- the counts of its lines, behind the count of its events
abbrev pub made_summary : ℕ → ℕ → List ℕ
made_summary seed m = summary (m + 7) (tally (made_lines seed m))

-- the summary of the run was written, and the run is safe
pub record IsExercised (seed m : ℕ) (old new : Option (List ℕ)) : Type 0 where
  pub written : Appends old new (made_summary seed m)
  pub safe : IsSafe made_config (made seed m)

-- what a call that stops has written: nothing without memory, and a part of the summary where the sink failed
abbrev pub StopsExercise : ℕ → ℕ → Option (List ℕ) → Option (List ℕ) → Stop → Type 0
StopsExercise seed m old new NoMemory = IsSilent old new
StopsExercise seed m old new Write = AppendsPart old new (made_summary seed m)
StopsExercise seed m old new Read = ⊥
StopsExercise seed m old new (BadSchedule line place) = ⊥

-- what `exercise` has written, by its status
abbrev pub EndsExercise : ℕ → ℕ → Option (List ℕ) → Option (List ℕ) → Status → Type 0
EndsExercise seed m old new statuses.Ok = IsExercised seed m old new
EndsExercise seed m old new statuses.NoMemory = IsSilent old new
EndsExercise seed m old new statuses.Write = AppendsPart old new (made_summary seed m)
EndsExercise seed m old new _ = ⊥

-- these events of the made schedule were played, their lines were counted, and the lines of so many further steps can be
pub record HasPlayed (cluster : Cluster) (t : Tally) (events : List Event) (left : ℕ) : Type 0 where
  pub config : config_of cluster ≡ made_config
  pub state : state_of cluster ≡ state_after made_config (start made_config) events
  pub reached : IsReached cluster
  pub counts : t ≡ tally (lines_of made_config (start made_config) events)
  pub room : HasRoom t (left * 2 ^ 64)
