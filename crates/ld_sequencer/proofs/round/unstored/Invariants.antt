use Rattle.std.proofs.Common.{◌≡◌, ◌++◌, drop}
use Rattle.ld_table.specs.Words.{without}
use Rattle.ld_sequencer.proofs.round.unstored.Given as goal

abbrev pub invariant-nodes : goal.invariant-nodes
invariant-nodes l = l.left ++ without l.fn.pending.append.stored (drop l.place l.fn.nodes) ≡ without l.fn.pending.append.stored l.fn.nodes
