-- What a tick of a node does, by what a look at the register shows.
use Rattle.std.specs.Prelude.{◌≡◌, ◌≤◌, ◌⊎◌, ℕ, List, Option, Some, None, if◌then◌else◌}
use Rattle.ld_table.specs.Table.{find}
use Rattle.ld_table.specs.Words.{is_in}
use Rattle.ld_msg.specs.declared.msg.Who.TheVariants as whos
use Rattle.ld_msg.specs.declared.msg.Summary.{Summary}
use Rattle.ld_msg.specs.Network.{posted}
use Rattle.ld_msg.specs.Register.{Register, epochs_of, lce_of, summary_shown}
use Rattle.ld_op.specs.declared.op.Op.{Op}
use Rattle.ld_op.specs.declared.op.Op.TheVariants as ops
use Rattle.ld_op.specs.Plain.{Plain, Log, log_of}
use Rattle.ld_op.specs.Ticks.{Ticked, Cleans, Rebuilt, Asks, Nothing, tick_with, lowest_unclean, node_asks}
use Rattle.ld_node_bounds.specs.Messages.{AreMessages}
use Rattle.ld_register.specs.declared.fault.RegisterFault.{RegisterFault}
use Rattle.ld_register.specs.declared.fault.RegisterFault.TheVariants as faults
use Rattle.ld_node.specs.Known.{Known}
use Rattle.ld_node.specs.declared.tick.Ticked as declared
use Rattle.ld_node.specs.declared.tick.Ticked.TheVariants as answers
use Rattle.ld_node.specs.declared.tick.Step.{Step}

-- by the summary that a look shows of the lowest epoch that is not clean here
abbrev pub seen : Log → Register → ℕ → Ticked
seen g c l = tick_with g (summary_shown c l (lowest_unclean g))

-- what a tick does: nothing for a log that the node does not know
unfoldable pub ticked : Known → Plain → ℕ → Register → Ticked
ticked known p l c = if is_in l known.logs then seen (log_of p l) c l else Nothing

-- the op that it keeps
abbrev pub op_of : ℕ → Ticked → Option Op
op_of l (Cleans epoch y) = Some (ops.Clean l epoch y)
op_of l Rebuilt = Some (ops.Refilled l)
op_of l (Asks from) = None
op_of l Nothing = None

-- its answer, with the asks of the node to the other nodes
abbrev pub answer_of : ℕ → ℕ → List ℕ → Ticked → declared.Ticked
answer_of id l nodes (Cleans epoch y) = answers.Cleaned epoch
answer_of id l nodes Rebuilt = answers.Rebuilt
answer_of id l nodes (Asks from) = answers.Asked (posted (whos.Node id) l (node_asks id nodes from))
answer_of id l nodes Nothing = answers.Nothing

-- the op and the answer of what a tick does
pub record IsStep (id l : ℕ) (nodes : List ℕ) (step : Step) (done : Ticked) : Type 0 where
  pub op : step.op ≡ op_of l done
  pub answer : step.ticked ≡ answer_of id l nodes done

-- what it asks is messages that a frame can carry
abbrev pub AskMessages : declared.Ticked → Type 0
AskMessages (answers.Cleaned epoch) = Unit {0}
AskMessages answers.Rebuilt = Unit {0}
AskMessages (answers.Asked sends) = AreMessages sends
AskMessages answers.Nothing = Unit {0}

-- each summary is one of a closed epoch
abbrev pub AreClosed : Register → ℕ → Type 0
AreClosed c l = (e : ℕ) (y : Summary) → find e (epochs_of c l).summaries ≡ Some y → (1 ≤ e) × (e ≤ lce_of c l)

-- a look may be refused with it: its disk failed, or its bytes are no journal of changes
abbrev pub IsOfLook : RegisterFault → Type 0
IsOfLook fault = (fault ≡ faults.Failed) ⊎ ((place : ℕ) × (fault ≡ faults.Damaged place))
