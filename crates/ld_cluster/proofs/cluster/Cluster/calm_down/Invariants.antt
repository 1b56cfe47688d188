use Rattle.ld_cluster.specs.Calming.{left_in}
use Rattle.ld_cluster.proofs.Calming.{StillCalming}
use Rattle.ld_cluster.proofs.cluster.Cluster.calm_down.Given as goal

abbrev pub invariant-steps : goal.invariant-steps
invariant-steps l = StillCalming l.fn.self l.fn.lines l.self l.lines (left_in l.left.items) l.turn
