-- What a reader holds that has heard all nodes that its round asks, while these are as they are now.
use Rattle.std.proofs.Common.{◌≡◌, ◌≤◌, ◌<◌, ℕ, Some}
use Rattle.ld_table.specs.Table.{find}
use Rattle.ld_lsn.specs.Number.{home_epoch}
use Rattle.ld_ids.specs.Choice.{nodes_of}
use Rattle.ld_config.specs.declared.config.Config.{Config}
use Rattle.ld_msg.specs.Choice.{sender}
use Rattle.ld_msg.specs.declared.msg.Body.{Body}
use Rattle.ld_msg.specs.Register.{View}
use Rattle.ld_msg.specs.Reading.{Held}
use Rattle.ld_msg.specs.Reader.{Reader, Senders}
use Rattle.ld_op.specs.Plain.{log_of}
use Rattle.ld_op.specs.Answers.{read_answer, one_answer}
use Rattle.ld_machine.specs.Config.{looks_at}
use Rattle.ld_machine.specs.State.{State, node_at}
use Rattle.ld_machine.specs.Step as Step
use Rattle.ld_machine.specs.World.{In}

-- what the node answers now to an ask for a number, with all payloads
abbrev pub whole_now : State → ℕ → ℕ → ℕ → ℕ → Body
whole_now s l y round n = read_answer (node_at s y).plain.generation (log_of (node_at s y).plain l) (Step.released_at (node_at s y) l) round n

-- and to an ask by which one node sends each payload
abbrev pub one_now : State → ℕ → ℕ → ℕ → ℕ → Senders → Body
one_now s l y round n o = one_answer y (node_at s y).plain.generation (log_of (node_at s y).plain l) (Step.released_at (node_at s y) l) round n o.set o.excluded

-- what a look at the epoch of the next number shows
abbrev pub view_now : Config → State → Reader → View
view_now c s d = looks_at c s.register d.log (home_epoch d.next)

-- the answer that is held of a node is its whole answer of now
pub record HoldsWhole (s : State) (d : Reader) (y : ℕ) : Type 0 where
  pub held : Held
  pub found : find y d.held ≡ Some held
  pub is : held.body ≡ whole_now s d.log y held.round d.next

-- or the one to an ask for one copy
pub record HoldsOne (s : State) (d : Reader) (y : ℕ) (o : Senders) : Type 0 where
  pub held : Held
  pub found : find y d.held ≡ Some held
  pub is : held.body ≡ one_now s d.log y held.round d.next o

pub data Holds (s : State) (d : Reader) (y : ℕ) : Type 0 where
  in_full : HoldsWhole s d y → Holds s d y
  in_part : (o : Senders) → HoldsOne s d y o → Holds s d y

-- the node was lost for the epoch of the number at some time, so it has all numbers of it
abbrev pub WasLost : State → ℕ → ℕ → ℕ → Type 0
WasLost s l y n = (0 < home_epoch n) × (home_epoch n ≤ (log_of (node_at s y).plain l).lost_to)

-- why some payload is held: each node sent all; or it is a round in which one node sends each, and all answers are of it; or one that was lost sent all
pub data Sure (c : Config) (s : State) (d : Reader) : Type 0 where
  by_all : ((y : ℕ) → In y (nodes_of (view_now c s d).spec) → HoldsWhole s d y) → Sure c s d
  by_sender : (o : Senders) → d.senders ≡ Some o → o.set ≡ (view_now c s d).spec.set → (w : ℕ) → sender o.set o.excluded d.next ≡ Some w → ((y : ℕ) → In y (nodes_of (view_now c s d).spec) → (h : HoldsOne s d y o) × (h.held.round ≡ d.round)) → Sure c s d
  by_lost : (y : ℕ) → In y (nodes_of (view_now c s d).spec) → HoldsWhole s d y → WasLost s d.log y d.next → Sure c s d

-- all nodes that the look at the next number's epoch shows were heard
pub record AllHeard (c : Config) (s : State) (d : Reader) : Type 0 where
  pub each : (y : ℕ) → In y (nodes_of (view_now c s d).spec) → Holds s d y
  pub sure : Sure c s d
