-- How a replay ends, by the bytes of the input and what was written.
use Rattle.std.specs.Prelude.{ℕ, ◌≡◌, ◌≤◌, ◌+◌, ◌*◌, ◌⊎◌, List, [], ◌∷◌, ◌++◌, length, Option, Some, true}
use Rattle.std.specs.Io.KnownBytes.{Appends}
use Rattle.ld_schedule.specs.declared.event.Event.{Event}
use Rattle.ld_schedule.specs.declared.event.Event.TheVariants as happens
use Rattle.ld_config.specs.declared.config.Config.{Config}
use Rattle.ld_table.specs.Named.{find_named}
use Rattle.ld_table.specs.Words.{is_in, how_many}
use Rattle.ld_lsn.specs.Number.{home_epoch}
use Rattle.ld_transcript.specs.declared.line.Line.TheVariants as lines
use Rattle.ld_transcript.specs.declared.line.GapKind.TheVariants as gaps
use Rattle.ld_msg.specs.Reader.{Reader}
use Rattle.ld_machine.specs.Config.{fixed_of, fixed_at, has_log}
use Rattle.ld_machine.specs.State.{State, start}
use Rattle.ld_machine.specs.Calm.{calm_moves, calm_bound, calms}
use Rattle.ld_machine.specs.Run.{Move, transcript, history, moves, state_after, after_step, world_after, step_happened}
use Rattle.ld_machine.specs.World.{Made, In, HasPlan, begin}
use Rattle.ld_machine.specs.Losses.{EndsAsLoss, Completes as Confirms}
use Rattle.ld_machine.specs.Safe.{Safe}
use Rattle.ld_safety.specs.Lost.{CopiesAreLost, LossAsked, MadeOfLost}
use Rattle.ld_safety.specs.OneCopy.{OneSends}
use Rattle.ld_safety.specs.OneRun.{AreOneRun}
use Rattle.ld_calm.specs.Ends.{IsCalm}
use Rattle.ld_calm.specs.Lines.{told_bounds}
use Rattle.ld_served.specs.Served.{AllWell, NoLimit, IsServed}
use Rattle.ld_cli.specs.declared.status.Stop.{Stop}
use Rattle.ld_cli.specs.declared.status.Stop.TheVariants as stops
use Rattle.ld_cli.specs.declared.status.Status.{Status}
use Rattle.ld_cli.specs.declared.status.Status.TheVariants as statuses
use Rattle.ld_cli.specs.Schedule.{Configures, AreSpelt, schedule_text, IsOffFirst, IsOffLater}

-- the bytes that a run of these events writes
abbrev pub written_by : Config → List Event → List ℕ
written_by config events = transcript config events

-- where a reader of the run asks once more for a number that it then calls lost, the number's epoch is closed, and as many of its nodes as it has copies are lost for
-- it, each before a record that was cut short, where there is one; and unless the epoch was closed short, or where the number was known good, so many of those
-- that settled the number for the closing plan, or stored its append, or took places in the epoch
abbrev pub LossesStood : Config → List Event → Type 0
LossesStood config events = (name : List ℕ) (log number round : ℕ) (before : List Move) (asks : Move) (between : List Move) (gives : Move) (after : List Move)
    → moves config events ≡ before ++ asks ∷ between ++ gives ∷ after
    → EndsAsLoss config name log number round before asks between gives
    → CopiesAreLost config (after_step config (world_after config (begin config) before) asks) log number

-- after these steps the epoch has a plan that says what is lost; as it was made, as many of the nodes that were fixed for the epoch as it has copies were blank, or lost for it,
-- and so many of them stood lost for it in the lines before
pub record WasPlanned (config : Config) (steps : List Move) (log epoch : ℕ) : Type 0 where
  pub ballot : ℕ
  pub plan : Made
  pub there : HasPlan (world_after config (begin config) steps) log epoch ballot plan
  pub says : plan.loss ≡ true
  pub gone : (fixed_of config (world_after config (begin config) steps).state.register log epoch).r ≤ how_many (λ y. is_in y plan.gone) (fixed_at config (world_after config (begin config) steps).state.register log epoch)
  pub moment : MadeOfLost config steps log epoch plan

-- numbers that a reader of the run is told are lost are of an epoch that has such a plan, except the one number whose confirmation the step completes
abbrev pub LossesPlanned : Config → List Event → Type 0
LossesPlanned config events = (name : List ℕ) (low high number : ℕ) (before : List Move) (gives : Move) (after : List Move) (d : Reader)
    → moves config events ≡ before ++ gives ∷ after
    → find_named name (world_after config (begin config) before).state.readers ≡ Some d
    → In (lines.Gap name gaps.DataLoss low high) (step_happened config (world_after config (begin config) before).state gives).lines
    → (Confirms (world_after config (begin config) before) d gives → low ≡ d.next → high ≡ d.next → ⊥)
    → low ≤ number → number ≤ high
    → WasPlanned config before d.log (home_epoch number)

-- the one number that is excepted there is one of those that the reader asked once more: a step before sent the asks of its confirmation
abbrev pub LossesConfirmed : Config → List Event → Type 0
LossesConfirmed config events = (name : List ℕ) (number : ℕ) (before : List Move) (gives : Move) (after : List Move) (d : Reader)
    → moves config events ≡ before ++ gives ∷ after
    → find_named name (world_after config (begin config) before).state.readers ≡ Some d
    → In (lines.Gap name gaps.DataLoss number number) (step_happened config (world_after config (begin config) before).state gives).lines
    → Confirms (world_after config (begin config) before) d gives → number ≡ d.next
    → LossAsked config name d.log number before gives

-- a calm behind these events ends: each of its steps is the next one with what is left to do, behind the last one nothing is left, and there are no more of them than
-- the bound that is read from the state, and than the one that the lines before it tell; where all is well as it begins, and no limit is met, each log is served behind it
pub record CalmEnds (config : Config) (before : List Event) : Type 0 where
  pub whole : IsCalm config (state_after config (start config) before) (calm_moves config (state_after config (start config) before))
  pub few : length (calm_moves config (state_after config (start config) before)) ≤ calm_bound config (state_after config (start config) before)
  pub told : length (calm_moves config (state_after config (start config) before))
      ≤ 2 * length (state_after config (start config) before).network.fresh + told_bounds config (history config before) (state_after config (start config) before) config.logs
  pub served : AllWell config (state_after config (start config) before) → NoLimit (calms config (state_after config (start config) before)) → (log : ℕ) → has_log config log ≡ true
      → IsServed config (calms config (state_after config (start config) before)).state log

-- the headline: in the run of these events what each reader gets tiles the numbers from its first one on, a record is the payload that was appended under its
-- number, the messages of a batch are those of the batch that was, each reader gets records or messages as it was opened, no hole or bridge holds a number that was
-- acknowledged or read, a trim gap ends at an issued point, and a data loss had its moment, in the lines and in the state: it is one that a plan says, or one that was
-- confirmed; the numbers of appends rise, each of its sequencer's epoch, and what is acknowledged or released was appended before; in a round for one copy of each
-- record one node alone sends each; each calm ends; and these are the lines of the transcript, but for `none`
pub record IsSafe (config : Config) (events : List Event) : Type 0 where
  pub told : AreOneRun config events
  pub lines : Safe config (history config events)
  pub losses : LossesStood config events
  pub planned : LossesPlanned config events
  pub confirmed : LossesConfirmed config events
  pub sent : OneSends (world_after config (begin config) (moves config events))
  pub calms : (before after : List Event) → events ≡ before ++ happens.Calm ∷ after → CalmEnds config before

-- the input is a schedule, and its whole transcript was written
pub record IsReplayed (bytes : List ℕ) (old new : Option (List ℕ)) : Type 0 where
  pub line : List ℕ
  pub config : Config
  pub events : List Event
  pub configures : Configures line config
  pub spelt : AreSpelt events
  pub whole : bytes ≡ schedule_text line events
  pub written : Appends old new (written_by config events)
  pub safe : IsSafe config events

-- the first line has a syntax error, and nothing was written
pub record StopsFirst (bytes : List ℕ) (old new : Option (List ℕ)) (at place : ℕ) : Type 0 where
  pub off : IsOffFirst bytes place
  pub line : at ≡ 1
  pub written : Appends old new []

-- the lines before this one are a schedule, this one is off, and the transcript of those before was written
pub record StopsLater (bytes : List ℕ) (old new : Option (List ℕ)) (at place : ℕ) : Type 0 where
  pub first : List ℕ
  pub config : Config
  pub events : List Event
  pub rest : List ℕ
  pub configures : Configures first config
  pub spelt : AreSpelt events
  pub front : bytes ≡ schedule_text first events ++ rest
  pub off : IsOffLater rest place
  pub line : at ≡ length events + 2
  pub written : Appends old new (written_by config events)
  pub safe : IsSafe config events

abbrev pub IsStopped : List ℕ → Option (List ℕ) → Option (List ℕ) → ℕ → ℕ → Type 0
IsStopped bytes old new line place = StopsFirst bytes old new line place ⊎ StopsLater bytes old new line place

-- nothing was written
abbrev pub IsSilent : Option (List ℕ) → Option (List ℕ) → Type 0
IsSilent old new = Appends old new []

-- these lines were read whole, and a part of the transcript of their run was written
pub record WasPlayed (bytes : List ℕ) (old new : Option (List ℕ)) : Type 0 where
  pub first : List ℕ
  pub config : Config
  pub events : List Event
  pub rest : List ℕ
  pub configures : Configures first config
  pub spelt : AreSpelt events
  pub read : bytes ≡ schedule_text first events ++ rest
  pub part : List ℕ
  pub missing : List ℕ
  pub written : Appends old new part
  pub prefix : written_by config events ≡ part ++ missing
  pub safe : IsSafe config events

abbrev pub IsCut : List ℕ → Option (List ℕ) → Option (List ℕ) → Type 0
IsCut bytes old new = IsSilent old new ⊎ WasPlayed bytes old new

-- what a replay that stops has written
abbrev pub StopsBy : List ℕ → Option (List ℕ) → Option (List ℕ) → Stop → Type 0
StopsBy bytes old new (stops.BadSchedule line place) = IsStopped bytes old new line place
StopsBy bytes old new stops.NoMemory = IsCut bytes old new
StopsBy bytes old new stops.Read = IsCut bytes old new
StopsBy bytes old new stops.Write = IsCut bytes old new

-- what a run has written, by its status
abbrev pub EndsBy : List ℕ → Option (List ℕ) → Option (List ℕ) → Status → Type 0
EndsBy bytes old new statuses.Ok = IsReplayed bytes old new
EndsBy bytes old new (statuses.BadSchedule line place) = IsStopped bytes old new line place
EndsBy bytes old new statuses.NoMemory = IsCut bytes old new
EndsBy bytes old new statuses.Read = IsCut bytes old new
EndsBy bytes old new statuses.Write = IsCut bytes old new
EndsBy bytes old new _ = ⊥

-- the statuses of a replay
abbrev pub IsOfReplay : Status → Type 0
IsOfReplay statuses.Ok = Unit {0}
IsOfReplay (statuses.BadSchedule line place) = Unit {0}
IsOfReplay statuses.NoMemory = Unit {0}
IsOfReplay statuses.Read = Unit {0}
IsOfReplay statuses.Write = Unit {0}
IsOfReplay _ = ⊥

-- the input is a schedule: the line of a configuration, and lines of events
pub record IsSchedule (bytes : List ℕ) : Type 0 where
  pub line : List ℕ
  pub config : Config
  pub events : List Event
  pub configures : Configures line config
  pub spelt : AreSpelt events
  pub whole : bytes ≡ schedule_text line events

-- how a schedule may end: its status is Ok, but for a fault of the source or the sink, and running out of memory
abbrev pub Completes : Type 0 → Type 0 → Status → Type 0
Completes read write statuses.Ok = Unit {0}
Completes read write statuses.NoMemory = Unit {0}
Completes read write statuses.Read = read
Completes read write statuses.Write = write
Completes read write _ = ⊥
