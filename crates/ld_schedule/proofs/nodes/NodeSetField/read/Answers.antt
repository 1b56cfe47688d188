use Rattle.ld_schedule.proofs.Lists.{nodes_read}
use Rattle.ld_schedule.proofs.nodes.NodeSetField.read.Goals as goal

pub returns : goal.returns
returns c = nodes_read c.args.line.now c.nodes_above.result c.nodes_above.ensures
