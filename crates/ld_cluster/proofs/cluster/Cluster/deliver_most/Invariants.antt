use Rattle.ld_cluster.specs.Steps.{IsFlowing}
use Rattle.ld_cluster.proofs.cluster.Cluster.deliver_most.Given as goal

abbrev pub invariant-deliveries : goal.invariant-deliveries
invariant-deliveries l = IsFlowing l.fn.self l.fn.lines l.most l.self l.lines l.left

abbrev pub decreases-deliveries : goal.decreases-deliveries
decreases-deliveries l = l.left
