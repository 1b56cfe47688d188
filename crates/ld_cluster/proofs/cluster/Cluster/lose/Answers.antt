use Rattle.ld_cluster.specs.Standing.{state_of}
use Rattle.ld_cluster.proofs.Delivering.{lose_done}
use Rattle.ld_cluster.proofs.cluster.Cluster.lose.Goals as goal

pub returns : goal.returns
returns c = lose_done c.args.self.now (state_of c.args.self.now) c.mark.new.self c.args.message c.nothing.result c.requires.reached.parts c.mark.ensures c.nothing.ensures.lines c.nothing.ensures.sends
