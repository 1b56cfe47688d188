-- How asking nodes ends.
use Rattle.std.specs.Prelude.{ℕ, ◌≡◌, ◌⊎◌, ◌≤◌, List, [], ◌∷◌, ◌++◌, Option, None, Some, Bool, true, false, map, All}
use Rattle.std.specs.List.{list_all}
use Rattle.std.specs.declared.result.Result.{Result}
use Rattle.std.specs.declared.result.Result.TheVariants.{Ok, Err}
use Rattle.ld_io.specs.Causes.{Rose}
use Rattle.ld_config.specs.declared.config.Config.{Config}
use Rattle.ld_msg.specs.declared.msg.Msg.{Msg}
use Rattle.ld_msg.specs.declared.msg.Body.{Body}
use Rattle.ld_msg.specs.Reading.{trim_told}
use Rattle.ld_machine.specs.Disk.{Node}
use Rattle.ld_machine.specs.State.{node_at}
use Rattle.ld_machine.specs.Config.{has_log}
use Rattle.ld_wire.specs.declared.fault.WireFault.{WireFault}
use Rattle.ld_dial.specs.Far.{Far, alone, is_up_in}
use Rattle.ld_operate.specs.declared.stop.LookStop.TheVariants as looks
use Rattle.ld_operate.specs.declared.stop.StatusStop.{StatusStop}
use Rattle.ld_operate.specs.declared.stop.StatusStop.TheVariants as stops
use Rattle.ld_operate.specs.Looking.{IsStop}
use Rattle.ld_operate.specs.Asked.{Said, IsSaid, is_whole, said_of, saids_text, saids_of, node_answer, state_lines, epochs_in, states_of, asked, points_line, state_line, first_number, past_all, past_epoch}

-- ---- causes ----

-- a call of the nodes failed, or one of them had ended, as their counts before and now say
abbrev pub IsBroken : ℕ → ℕ → ℕ → ℕ → Type 0
IsBroken faults faults_now endings endings_now = Rose faults faults_now ⊎ Rose endings endings_now

abbrev pub AreLater : ℕ → ℕ → ℕ → ℕ → Type 0
AreLater faults faults_now endings endings_now = (faults ≤ faults_now) × (endings ≤ endings_now)

-- as of looks and writes, or what the present node sent begins no frame, as the nodes tell
abbrev pub IsStatusStop : (ℕ → Type 0) → ℕ → ℕ → ℕ → ℕ → Option WireFault → StatusStop → Type 0
IsStatusStop damaged register_before register_now before now off (stops.Look stop) = IsStop damaged register_before register_now before now stop
IsStatusStop damaged register_before register_now before now off (stops.BadFrame fault) = off ≡ Some fault

-- where nothing is looked at and written
abbrev pub IsAskStop : Option WireFault → StatusStop → Type 0
IsAskStop off (stops.Look looks.Register) = ⊥
IsAskStop off (stops.Look (looks.Damaged place)) = ⊥
IsAskStop off (stops.Look looks.Write) = ⊥
IsAskStop off (stops.Look looks.NoMemory) = Unit {0}
IsAskStop off (stops.BadFrame fault) = off ≡ Some fault

-- where no register is looked at
abbrev pub IsNodeStop : ℕ → ℕ → Option WireFault → StatusStop → Type 0
IsNodeStop before now off (stops.Look looks.Register) = ⊥
IsNodeStop before now off (stops.Look (looks.Damaged place)) = ⊥
IsNodeStop before now off (stops.Look looks.Write) = Rose before now
IsNodeStop before now off (stops.Look looks.NoMemory) = Unit {0}
IsNodeStop before now off (stops.BadFrame fault) = off ≡ Some fault

-- ---- what stands at the nodes ----

-- the same as there was
abbrev pub SameNodes : List (ℕ × Node) → List (ℕ × Node) → Type 0
SameNodes before now = (y : ℕ) → node_at (alone now) y ≡ node_at (alone before) y

pub record Stand (tells : Far → Type 0) (nodes : List (ℕ × Node)) : Type 0 where
  pub far : Far
  pub told : tells far
  pub same : SameNodes nodes far.nodes

-- and this node is present, and has said all
pub record Faces (tells : Far → Type 0) (nodes : List (ℕ × Node)) (y : ℕ) : Type 0 where
  pub far : Far
  pub told : tells far
  pub same : SameNodes nodes far.nodes
  pub present : far.present ≡ Some y
  pub none : far.answers ≡ []

-- ---- what was heard of a node ----

-- what it answered to an ask, where it did; where the nodes are silent nothing is told
abbrev pub IsHeard : (Far → Type 0) → Bool → List (ℕ × Node) → ℕ → ℕ → ℕ → Result (Option Body) StatusStop → Type 0
IsHeard tells silent nodes y log from (Ok None) = silent ≡ true
IsHeard tells silent nodes y log from (Ok (Some b)) = (silent ≡ true) ⊎ ((b ≡ node_answer (node_at (alone nodes) y) log from) × Faces tells nodes y)
IsHeard tells silent nodes y log from (Err stop) = Unit {0}

-- the first answer that the present node hasn't given yet
abbrev pub TakesNext : Far → (Far → Type 0) → Result (Option Body) StatusStop → Type 0
TakesNext far T (Ok (Some b)) = (m : Msg) × (rest : List Msg) × (far.answers ≡ m ∷ rest) × (b ≡ m.body) × T (record far { answers = rest })
TakesNext far T (Ok None) = far.answers ≡ []
TakesNext far T (Err stop) = Unit {0}

-- it was silent, and nothing was written
pub record Unheard (tells_old : Config → Far → Type 0) (silent : Bool) (log y : ℕ) (old new : List ℕ) : Type 0 where
  pub written : new ≡ old
  pub told : (c : Config) (nodes : List (ℕ × Node)) → Faces (tells_old c) nodes y → is_up_in nodes y ≡ true → has_log c log ≡ true → silent ≡ true

-- the answers to the first two asks, whose line was written
pub record HeardPoints (json : Bool) (tells_old tells_new : Config → Far → Type 0) (silent : Bool) (log y : ℕ) (old new : List ℕ) (trim : ℕ) : Type 0 where
  pub first : Body
  pub second : Body
  pub is : trim ≡ trim_told first
  pub written : new ≡ old ++ points_line json y first second
  pub told : (c : Config) (nodes : List (ℕ × Node)) → Faces (tells_old c) nodes y → is_up_in nodes y ≡ true → has_log c log ≡ true
      → (silent ≡ true) ⊎ ((first ≡ node_answer (node_at (alone nodes) y) log first_number) × (second ≡ node_answer (node_at (alone nodes) y) log past_all) × Faces (tells_new c) nodes y)

-- the answer for an epoch, whose line was written
pub record HeardState (json : Bool) (tells_old tells_new : Config → Far → Type 0) (silent : Bool) (log y epoch : ℕ) (old new : List ℕ) : Type 0 where
  pub answer : Body
  pub written : new ≡ old ++ state_line json y epoch answer
  pub told : (c : Config) (nodes : List (ℕ × Node)) → Faces (tells_old c) nodes y → is_up_in nodes y ≡ true → has_log c log ≡ true
      → (silent ≡ true) ⊎ ((answer ≡ node_answer (node_at (alone nodes) y) log (past_epoch epoch)) × Faces (tells_new c) nodes y)

abbrev pub HeardOrNot : Bool → (Config → Far → Type 0) → (Config → Far → Type 0) → Bool → ℕ → ℕ → ℕ → List ℕ → List ℕ → Bool → Type 0
HeardOrNot json tells_old tells_new silent log y epoch old new true = HeardState json tells_old tells_new silent log y epoch old new
HeardOrNot json tells_old tells_new silent log y epoch old new false = Unheard tells_old silent log y old new

-- the answers for epochs, whose lines were written
pub record HeardStates (json : Bool) (tells_old tells_new : Config → Far → Type 0) (silent : Bool) (log y trim first count : ℕ) (old new : List ℕ) (whole : Bool) : Type 0 where
  pub states : List (ℕ × Body)
  pub rest : List ℕ
  pub are : asked trim first count ≡ epochs_in states ++ rest
  pub all : whole ≡ true → rest ≡ []
  pub written : new ≡ old ++ state_lines json y states
  pub told : (c : Config) (nodes : List (ℕ × Node)) → Faces (tells_old c) nodes y → is_up_in nodes y ≡ true → has_log c log ≡ true
      → (silent ≡ true) ⊎ ((whole ≡ true) × (states ≡ states_of (node_at (alone nodes) y) log (asked trim first count)) × Faces (tells_new c) nodes y)

-- what it said, of which the lines of its answers were written, or all lines
pub record Heard (text : ℕ → Said → List ℕ) (tells_old tells_new : Config → Far → Type 0) (silent : Bool) (log y first count : ℕ) (old new : List ℕ) (whole : Bool) : Type 0 where
  pub said : Said
  pub is : IsSaid first count said
  pub whole_is : whole ≡ is_whole said
  pub written : new ≡ old ++ text y said
  pub told : (c : Config) (nodes : List (ℕ × Node)) → Stand (tells_old c) nodes → has_log c log ≡ true
      → (silent ≡ true) ⊎ ((said ≡ said_of (node_at (alone nodes) y) log first count) × Stand (tells_new c) nodes)

-- what each node of a list said
pub record HeardAll (json : Bool) (tells_old tells_new : Config → Far → Type 0) (silent : Bool) (log first count : ℕ) (ys : List ℕ) (old new : List ℕ) (whole : Bool) : Type 0 where
  pub saids : List (ℕ × Said)
  pub nodes_are : map (λ s. s.0) saids ≡ ys
  pub are : All (λ s. IsSaid first count s.1) saids
  pub whole_is : whole ≡ list_all (λ s. is_whole s.1) saids
  pub written : new ≡ old ++ saids_text json saids
  pub told : (c : Config) (nodes : List (ℕ × Node)) → Stand (tells_old c) nodes → has_log c log ≡ true
      → (silent ≡ true) ⊎ ((saids ≡ saids_of nodes log first count ys) × Stand (tells_new c) nodes)
