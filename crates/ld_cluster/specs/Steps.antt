-- The steps of a cluster: an event is one step, but for a flow, each of whose deliveries is one, and a calm.
use Rattle.std.specs.Prelude.{ℕ, suc, zero, ◌≡◌, ◌≤◌, List, [], ◌∷◌, ◌++◌, Option, Some, None, Bool, true, false}
use Rattle.ld_schedule.specs.declared.event.Event.{Event}
use Rattle.ld_schedule.specs.declared.event.Event.TheVariants as events
use Rattle.ld_transcript.specs.declared.line.Line.{Line}
use Rattle.ld_config.specs.declared.config.Config.{Config}
use Rattle.ld_msg.specs.Network.{oldest_new}
use Rattle.ld_machine.specs.State.{State, Stepped, finish}
use Rattle.ld_machine.specs.Step.{delivers}
use Rattle.ld_machine.specs.Calm.{Move, Takes, calm_moves}
use Rattle.ld_machine.specs.Run.{flows}
use Rattle.ld_cluster.specs.Standing.{config_of, past_of, state_of, IsReached}
use Rattle.ld_cluster.specs.Outcomes.{AddsFirst}
use Rattle.ld_cluster.specs.declared.cluster.Cluster.{Cluster}

-- ---- one delivery of a flow ----

abbrev pub delivers_new : Config → State → Option ℕ → Stepped
delivers_new c s None = record { state = s; lines = [] }
delivers_new c s (Some i) = finish (delivers c s i)

-- the oldest new message is delivered, where there is one
abbrev pub delivers_oldest : Config → State → Stepped
delivers_oldest c s = delivers_new c s (oldest_new s.network)

abbrev pub delivery : Option ℕ → List Move
delivery None = []
delivery (Some i) = Takes (events.Deliver i) ∷ []

-- ---- the steps of an event ----

abbrev pub more_deliveries : Config → State → ℕ → Option ℕ → List Move
more_deliveries c s k None = []
more_deliveries c s zero (Some i) = []
more_deliveries c s (suc k) (Some i) = Takes (events.Deliver i) ∷ more_deliveries c (finish (delivers c s i)).state k (oldest_new (finish (delivers c s i)).state.network)

unfoldable pub steps_of : Config → State → Event → List Move
steps_of c s (events.Flow k) = more_deliveries c s k (oldest_new s.network)
steps_of c s events.Calm = calm_moves c s
steps_of c s e = Takes e ∷ []

-- an event of several steps
abbrev pub is_flow : Event → Bool
is_flow (events.Flow most) = true
is_flow events.Calm = true
is_flow _ = false

-- a call of a disk or a change of the register is counted from 1 on
abbrev pub Counts : Event → Type 0
Counts (events.Fail node call) = 1 ≤ call
Counts (events.Tear node call picture) = 1 ≤ call
Counts (events.RegFail call done) = 1 ≤ call
Counts _ = Unit {0}

-- ---- a step that was taken ----

pub record IsStep (old new : Cluster) (lines_old lines_new : List Line) (stepped : Stepped) (steps : List Move) : Type 0 where
  pub config : config_of new ≡ config_of old
  pub past : past_of new ≡ past_of old ++ steps
  pub state : state_of new ≡ stepped.state
  pub lines : lines_new ≡ lines_old ++ stepped.lines
  pub reached : IsReached new

-- a step that had no memory: of the events that it is made of the first ones were taken, and of its lines the first ones written
pub record IsStepInPart (old new : Cluster) (lines_old lines_new : List Line) (stepped : Stepped) (steps : List Move) : Type 0 where
  pub config : config_of new ≡ config_of old
  pub past : AddsFirst (past_of old) (past_of new) steps
  pub lines : AddsFirst lines_old lines_new stepped.lines

-- so many deliveries were made, as long as a message was new
pub record HasFlowed (old : Cluster) (lines_old : List Line) (most : ℕ) (new : Cluster) (lines_new : List Line) : Type 0 where
  pub config : config_of new ≡ config_of old
  pub past : past_of new ≡ past_of old ++ more_deliveries (config_of old) (state_of old) most (oldest_new (state_of old).network)
  pub state : state_of new ≡ (flows most (config_of old) (state_of old)).state
  pub lines : lines_new ≡ lines_old ++ (flows most (config_of old) (state_of old)).lines
  pub reached : IsReached new

-- some of the deliveries of a flow were made
pub record IsFlowing (old : Cluster) (lines_old : List Line) (most : ℕ) (now : Cluster) (lines_now : List Line) (left : ℕ) : Type 0 where
  pub config : config_of now ≡ config_of old
  pub state : (flows left (config_of old) (state_of now)).state ≡ (flows most (config_of old) (state_of old)).state
  pub lines : lines_now ++ (flows left (config_of old) (state_of now)).lines ≡ lines_old ++ (flows most (config_of old) (state_of old)).lines
  pub past : past_of now ++ more_deliveries (config_of old) (state_of now) left (oldest_new (state_of now).network) ≡ past_of old ++ more_deliveries (config_of old) (state_of old) most (oldest_new (state_of old).network)
  pub made : List Move
  pub made_are : past_of now ≡ past_of old ++ made
  pub told : List Line
  pub told_are : lines_now ≡ lines_old ++ told
  pub reached : IsReached now
