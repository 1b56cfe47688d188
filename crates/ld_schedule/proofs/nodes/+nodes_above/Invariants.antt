use Rattle.std.proofs.Common.{◌-◌}
use Rattle.ld_schedule.proofs.nodes.+nodes_above.Given as goal

abbrev pub decreases-nodes_above : goal.decreases-nodes_above
decreases-nodes_above l = 16 - l.low
