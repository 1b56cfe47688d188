use Rattle.std.proofs.Common.{length}
use Rattle.ld_cluster.specs.Calming.{left_in}
use Rattle.ld_cluster.proofs.Calming.{HasPassed}
use Rattle.ld_cluster.proofs.cluster.Cluster.calm_step.Given as goal

abbrev pub invariant-parts : goal.invariant-parts
invariant-parts l = HasPassed l.fn.self l.fn.lines (left_in l.initial.left.items) l.self l.lines (left_in l.left.items)

abbrev pub decreases-parts : goal.decreases-parts
decreases-parts l = length (left_in l.left.items)
