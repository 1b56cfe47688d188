use Rattle.std.proofs.Common.{◌≡◌, drop}
use Rattle.ld_table.specs.Words.{is_in}
use Rattle.ld_reader.proofs.asked.contains.Given as goal

abbrev pub invariant-loop-one : goal.invariant-loop-one
invariant-loop-one l = is_in l.node (drop l.one-index l.nodes) ≡ is_in l.node l.nodes
