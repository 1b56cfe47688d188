-- Runs.
use Rattle.std.specs.Prelude.{ℕ, suc, zero, List, [], ◌∷◌, ◌++◌, take, drop, Option, Some, None, nat_lt, if◌then◌else◌}
use Rattle.ld_schedule.specs.declared.event.Event.{Event}
use Rattle.ld_schedule.specs.declared.event.Event.TheVariants as events
use Rattle.ld_transcript.specs.declared.line.Line.{Line}
use Rattle.ld_transcript.specs.Text.{text}
use Rattle.ld_config.specs.Bounds.{IsInBounds}
use Rattle.ld_config.specs.declared.config.Config.{Config}
use Rattle.ld_msg.specs.Network.{oldest_new}
use Rattle.ld_msg.specs.Register.{Register, epochs_of}
use Rattle.ld_machine.specs.State.{State, Stepped, start, finish, or_none}
use Rattle.ld_machine.specs.Step.{happens, delivers}
pub use Rattle.ld_machine.specs.Calm.{Move, Takes, Calms}
use Rattle.ld_machine.specs.Calm.{Left, Next, moved, event_of, next_of, all_left, calm_fuel, calm_moves, calms}
use Rattle.ld_machine.specs.Facts.{Happened, Swapped}
use Rattle.ld_machine.specs.Safe.{Safe}
use Rattle.ld_machine.specs.World.{World, begin, made_on, joined_on}
use Rattle.ld_machine.specs.Invariant.{Invariant}

-- at most so many of the oldest new messages are delivered, each in a step of its own
abbrev pub flows : ℕ → Config → State → Stepped
flows zero c s = record { state = s; lines = [] }
flows (suc k) c s = elim (oldest_new s.network) [
  | None ↦ record { state = s; lines = [] }
  | Some i ↦ (let r : Stepped = finish (delivers c s i) in let rest : Stepped = flows k c r.state in record { state = rest.state; lines = r.lines ++ rest.lines })
]

abbrev pub flowed : Stepped → Stepped
flowed r = record { state = r.state; lines = or_none r.lines }

unfoldable pub step : Config → State → Event → Stepped
step c s (events.Flow k) = flowed (flows k c s)
step c s events.Calm = flowed (calms c s)
step c s e = finish (happens c s e)

-- the state after some events, and their lines
unfoldable pub state_after : Config → State → List Event → State
state_after c s [] = s
state_after c s (e ∷ es) = state_after c (step c s e).state es

unfoldable pub lines_of : Config → State → List Event → List Line
lines_of c s [] = []
lines_of c s (e ∷ es) = let r : Stepped = step c s e in r.lines ++ lines_of c r.state es

-- the transcript of a schedule, as bytes
abbrev pub transcript : Config → List Event → List ℕ
transcript c es = text (lines_of c (start c) es)

-- some of its lines, as bytes
abbrev pub part : ℕ → ℕ → Config → List Event → List ℕ
part low count c es = text (take count (drop low (lines_of c (start c) es)))

-- ---- the steps of a run, one for each delivery of a flow ----

-- what an event made of a register: an activation makes an epoch or none
abbrev pub epoch_made : Register → Register → Event → Option (ℕ × ℕ)
epoch_made before after (events.Activate name l) = if nat_lt (epochs_of before l).epoch (epochs_of after l).epoch then Some (l, (epochs_of after l).epoch) else None
epoch_made before after _ = None

-- what a swap left that an event made
abbrev pub swap_made : Register → Register → Event → Option Swapped
swap_made before after (events.Replace n other l) = if nat_lt (epochs_of before l).swaps (epochs_of after l).swaps then Some (record { log = l; specs = (epochs_of after l).swapped }) else None
swap_made before after _ = None

-- a step that an event made, as it is told
abbrev pub made_by : State → Event → Stepped → Happened
made_by s e r = record { event = e; lines = r.lines; made = epoch_made s.register r.state.register e; swapped = swap_made s.register r.state.register e }

pub record Went : Type 0 where
  pub state : State
  pub happened : List Happened

abbrev pub flow_steps : ℕ → Config → State → Went
flow_steps zero c s = record { state = s; happened = [] }
flow_steps (suc k) c s = elim (oldest_new s.network) [
  | None ↦ record { state = s; happened = [] }
  | Some i ↦ (let r : Stepped = finish (delivers c s i) in let rest : Went = flow_steps k c r.state in record { state = rest.state; happened = made_by s (events.Deliver i) r ∷ rest.happened })
]

abbrev pub one_step : State → Event → Stepped → Went
one_step s e r = record { state = r.state; happened = made_by s e r ∷ [] }

-- the steps of a calm
unfoldable pub calm_steps : ℕ → Config → State → List Left → Went
calm_steps zero c s ps = record { state = s; happened = [] }
calm_steps (suc k) c s ps = elim (next_of c s ps) [
  | None ↦ record { state = s; happened = [] }
  | Some x ↦ (let r : Stepped = moved c s x.move in let rest : Went = calm_steps k c r.state x.left in record { state = rest.state; happened = made_by s (event_of x.move) r ∷ rest.happened })
]

-- the steps of one event
unfoldable pub steps_of : Config → State → Event → Went
steps_of c s (events.Flow k) = flow_steps k c s
steps_of c s events.Calm = calm_steps (calm_fuel c s) c s (all_left c s)
steps_of c s e = one_step s e (finish (happens c s e))

unfoldable pub history_from : Config → State → List Event → List Happened
history_from c s [] = []
history_from c s (e ∷ es) = let w : Went = steps_of c s e in w.happened ++ history_from c w.state es

abbrev pub history : Config → List Event → List Happened
history c es = history_from c (start c) es

-- what the steps of one event take
abbrev pub flow_moves : ℕ → Config → State → List Move
flow_moves zero c s = []
flow_moves (suc k) c s = elim (oldest_new s.network) [ None ↦ [] | Some i ↦ Takes (events.Deliver i) ∷ flow_moves k c (finish (delivers c s i)).state ]

abbrev pub moves_of : Config → State → Event → List Move
moves_of c s (events.Flow k) = flow_moves k c s
moves_of c s events.Calm = calm_moves c s
moves_of c s e = Takes e ∷ []

abbrev pub moves_from : Config → State → List Event → List Move
moves_from c s [] = []
moves_from c s (e ∷ es) = moves_of c s e ++ moves_from c (steps_of c s e).state es

-- what the steps of a run take
abbrev pub moves : Config → List Event → List Move
moves c es = moves_from c (start c) es

-- the headline: every run is safe
abbrev pub EveryRunIsSafe : Type 0
EveryRunIsSafe = (c : Config) (es : List Event) → IsInBounds c → Safe c (history c es)

-- ---- the world along a run ----

-- what a step makes of a world
abbrev pub after_step : Config → World → Move → World
after_step c w m = record {
  state = (moved c w.state m).state;
  made = made_on c w.state (event_of m) ++ w.made;
  joined = joined_on w.state (moved c w.state m).state (event_of m) ++ w.joined;
}

-- what an event makes of it
abbrev pub next_world : Config → World → Event → World
next_world c w e = after_step c w (Takes e)

-- after these steps
unfoldable pub world_after : Config → World → List Move → World
world_after c w [] = w
world_after c w (m ∷ ms) = world_after c (after_step c w m) ms

-- a step, as it is told
abbrev pub step_happened : Config → State → Move → Happened
step_happened c s m = made_by s (event_of m) (moved c s m)

-- an event, as it is told
abbrev pub happened : Config → State → Event → Happened
happened c s e = step_happened c s (Takes e)

-- these steps, as they are told
abbrev pub trace : Config → World → List Move → List Happened
trace c w [] = []
trace c w (m ∷ ms) = step_happened c w.state m ∷ trace c (after_step c w m) ms

-- the invariant holds after any steps
abbrev pub InvariantHolds : Type 0
InvariantHolds = (c : Config) (ms : List Move) → IsInBounds c → Invariant c (trace c (begin c) ms) (world_after c (begin c) ms)
