use Rattle.std.proofs.Common.{◌≡◌, ◌-◌, length, drop}
use Rattle.ld_table.specs.Words.{all_of}
use Rattle.ld_ids.specs.Set.{members}
use Rattle.ld_machine.specs.Config.{has_node}
use Rattle.ld_cluster.proofs.sets.has_nodes.Given as goal

abbrev pub invariant-nodes : goal.invariant-nodes
invariant-nodes l = all_of (has_node l.config) (drop l.place (members l.set)) ≡ all_of (has_node l.config) (members l.set)

abbrev pub decreases-nodes : goal.decreases-nodes
decreases-nodes l = length (members l.set) - l.place
