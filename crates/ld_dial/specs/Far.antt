-- What stands at nodes that are dialed.
use Rattle.std.specs.Prelude.{◌≡◌, ◌⊎◌, ◌≤◌, ℕ, List, [], ◌∷◌, ◌++◌, Option, None, Some, Bool, true, false}
use Rattle.std.specs.declared.result.Result.{Result}
use Rattle.std.specs.declared.result.Result.TheVariants.{Ok, Err}
use Rattle.ld_io.specs.Causes.{Rose}
use Rattle.ld_config.specs.declared.config.Config.{Config}
use Rattle.ld_msg.specs.declared.msg.Msg.{Msg}
use Rattle.ld_msg.specs.declared.msg.Who.TheVariants as whos
use Rattle.ld_msg.specs.Network.{no_messages}
use Rattle.ld_msg.specs.Register.{empty_register}
use Rattle.ld_machine.specs.Disk.{Node, is_up}
use Rattle.ld_machine.specs.State.{State, Done, node_at}
use Rattle.ld_machine.specs.Step.{to_node}
use Rattle.ld_wire.specs.declared.fault.WireFault.{WireFault}
use Rattle.ld_dial.specs.declared.fault.Fault.{Fault}
use Rattle.ld_dial.specs.declared.fault.Fault.TheVariants as faults

-- the nodes, the present one, and its answers that weren't taken yet, the first one first
pub record Far : Type 0 where
  pub nodes : List (ℕ × Node)
  pub present : Option ℕ
  pub answers : List Msg

-- a state of the machine with nothing in it but the nodes
abbrev pub alone : List (ℕ × Node) → State
alone nodes = record { nodes = nodes; register = empty_register; network = no_messages; sequencers = []; readers = []; specs = [] }

abbrev pub is_up_in : List (ℕ × Node) → ℕ → Bool
is_up_in nodes y = is_up (node_at (alone nodes) y).status

-- what the message does at the node, and what the node answers
abbrev pub handed : Config → List (ℕ × Node) → ℕ → Msg → Done
handed c nodes y m = to_node c (alone nodes) y m

-- ---- what each call does, by what it answers ----

-- a node that is up is reached, and no other
abbrev pub Dials : {E : Type 0} → Far → ℕ → (Far → Type 0) → Result (Unit {0}) E → Type 0
Dials far y T (Ok _) = (is_up_in far.nodes y ≡ true) × T (record { nodes = far.nodes; present = Some y; answers = [] })
Dials far y T (Err _) = (is_up_in far.nodes y ≡ false) × T (record { nodes = far.nodes; present = None; answers = [] })

-- the present node, to which the message goes, handled it; its answers come behind the others
pub record IsHanded (c : Config) (far : Far) (m : Msg) (T : Far → Type 0) : Type 0 where
  pub node : ℕ
  pub present : far.present ≡ Some node
  pub up : is_up_in far.nodes node ≡ true
  pub told : T (record { nodes = (handed c far.nodes node m).state.nodes; present = Some node; answers = far.answers ++ (handed c far.nodes node m).sends })

-- it isn't up any more, and nothing changed
pub record IsGone (far : Far) (T : Far → Type 0) : Type 0 where
  pub node : ℕ
  pub present : far.present ≡ Some node
  pub down : is_up_in far.nodes node ≡ false
  pub told : T far

-- a message to the present node
abbrev pub SendsTo : Config → Far → Msg → Bool → (Far → Type 0) → Result (Unit {0}) Fault → Type 0
SendsTo c far m silent T (Ok _) = IsHanded c far m T
SendsTo c far m silent T (Err faults.Link) = IsGone far T ⊎ (silent ≡ true)
SendsTo c far m silent T (Err faults.NoMemory) = T far
SendsTo c far m silent T (Err (faults.BadFrame fault)) = ⊥

abbrev pub Sends : Config → Far → Msg → Bool → (Far → Type 0) → Result (Unit {0}) Fault → Type 0
Sends c far m silent T result = (y : ℕ) → far.present ≡ Some y → m.to ≡ whos.Node y → SendsTo c far m silent T result

-- the first of the answers that weren't taken
pub record IsNext (far : Far) (T : Far → Type 0) (m : Msg) : Type 0 where
  pub rest : List Msg
  pub first : far.answers ≡ m ∷ rest
  pub told : T (record far { answers = rest })

abbrev pub Receives : Far → (Far → Type 0) → Result (Option Msg) Fault → Type 0
Receives far T (Ok (Some m)) = IsNext far T m
Receives far T (Ok None) = (far.answers ≡ []) × T far
Receives far T (Err faults.NoMemory) = T far
Receives far T (Err _) = ⊥

-- ---- the count of faults ----

-- it rose where the link failed, and else it is the same
abbrev pub CountsFault : {T : Type 0} → ℕ → ℕ → Result T Fault → Type 0
CountsFault before now (Err faults.Link) = Rose before now × (before ≤ now)
CountsFault before now _ = now ≡ before

-- ---- the count of endings ----

-- it rose where the node has ended, and else it is the same
abbrev pub CountsEnding : ℕ → ℕ → Result (Option Msg) Fault → Type 0
CountsEnding before now (Ok None) = Rose before now × (before ≤ now)
CountsEnding before now _ = now ≡ before

-- ---- why a node's bytes begin no frame ----

-- it is told from the answer on that says so
abbrev pub KeepsFrame : Option WireFault → Option WireFault → Result (Option Msg) Fault → Type 0
KeepsFrame before now (Err (faults.BadFrame fault)) = now ≡ Some fault
KeepsFrame before now _ = now ≡ before
