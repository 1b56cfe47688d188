-- What a lost log lacks and asks for.
use Rattle.std.specs.Prelude.{ℕ, List, Option, Some, None, nat_lt, if◌then◌else◌}
use Rattle.ld_table.specs.Table.{find}
use Rattle.ld_lsn.specs.Number.{epoch_of}
use Rattle.ld_msg.specs.declared.msg.Summary.{Summary}
use Rattle.ld_msg.specs.declared.msg.Msg.{Msg}
use Rattle.ld_msg.specs.declared.msg.Who.TheVariants as whos
use Rattle.ld_msg.specs.Network.{posted}
use Rattle.ld_op.specs.declared.op.Op.{Op}
use Rattle.ld_op.specs.declared.op.Op.TheVariants as ops
use Rattle.ld_op.specs.Plain.{Log}
use Rattle.ld_op.specs.Ticks.{is_missing, node_asks}

-- the summary of a missing number's epoch
abbrev pub closing_of : Log → ℕ → Option Summary
closing_of g number = if is_missing g number then find (epoch_of number) g.summaries else None

abbrev pub trim_op : Log → ℕ → ℕ → Option Op
trim_op g log trim = if nat_lt g.trim trim then Some (ops.Trim log trim) else None

-- the asks of a node to others from a number on
abbrev pub asks_of : ℕ → ℕ → ℕ → List ℕ → List Msg
asks_of id log from nodes = posted (whos.Node id) log (node_asks id nodes from)
