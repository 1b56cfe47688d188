use Rattle.std.proofs.Common.{◌-◌}
use Rattle.ld_schedule.proofs.nodes.+node_above.Given as goal

abbrev pub decreases-node_above : goal.decreases-node_above
decreases-node_above l = 16 - l.low
