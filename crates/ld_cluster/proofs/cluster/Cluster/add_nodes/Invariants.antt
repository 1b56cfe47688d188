use Rattle.std.proofs.Common.{◌≡◌, ◌≤◌, ◌++◌, length, drop}
use Rattle.ld_machine.specs.Config.{all_nodes}
use Rattle.ld_cluster.specs.Calming.{left_in}
use Rattle.ld_cluster.specs.Standing.{config_of}
use Rattle.ld_cluster.proofs.Listing.{ticks_of}
use Rattle.ld_cluster.proofs.cluster.Cluster.add_nodes.Given as goal

abbrev pub invariant-nodes : goal.invariant-nodes
invariant-nodes l = (l.place ≤ length (all_nodes (config_of l.self))) × (left_in l.left.items ≡ ticks_of l.log (drop l.place (all_nodes (config_of l.self))) ++ left_in l.initial.left.items)

abbrev pub decreases-nodes : goal.decreases-nodes
decreases-nodes l = l.place
