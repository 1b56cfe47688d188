-- A calm ends: its steps are found one after the other until there is none, and there are at most as many as its bound.
use Rattle.std.specs.Prelude.{◌≡◌, ◌≤◌, List, [], ◌∷◌, length, Some, None}
use Rattle.ld_schedule.specs.declared.event.Event.{Event}
use Rattle.ld_config.specs.declared.config.Config.{Config}
use Rattle.ld_config.specs.Bounds.{IsInBounds}
use Rattle.ld_machine.specs.State.{State, start}
use Rattle.ld_machine.specs.Calm.{Left, Move, next_of, moved, all_left, calm_bound, calm_moves}
use Rattle.ld_machine.specs.World.{begin}
use Rattle.ld_machine.specs.Run.{state_after, world_after}

-- these are all the steps from here: each is the next one, and after the last nothing is left to do
abbrev pub AreSteps : Config → State → List Left → List Move → Type 0
AreSteps c s ps [] = next_of c s ps ≡ None
AreSteps c s ps (m ∷ ms) = (qs : List Left) × (next_of c s ps ≡ Some (record { move = m; left = qs })) × AreSteps c (moved c s m).state qs ms

abbrev pub IsCalm : Config → State → List Move → Type 0
IsCalm c s ms = AreSteps c s (all_left c s) ms

-- in every state of every run a calm ends, after at most so many steps, and these are what the machine takes
abbrev pub CalmEnds : Type 0
CalmEnds = (c : Config) (es : List Event) → IsInBounds c → let s : State = state_after c (start c) es in IsCalm c s (calm_moves c s) × (length (calm_moves c s) ≤ calm_bound c s)

-- and so it does after any steps
abbrev pub CalmEndsAfter : Type 0
CalmEndsAfter = (c : Config) (ms : List Move) → IsInBounds c → let s : State = (world_after c (begin c) ms).state in IsCalm c s (calm_moves c s) × (length (calm_moves c s) ≤ calm_bound c s)
