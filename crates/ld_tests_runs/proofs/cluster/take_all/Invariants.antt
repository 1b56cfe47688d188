use Rattle.ld_cluster.specs.Standing.{IsReached}
use Rattle.ld_tests_runs.proofs.cluster.take_all.Given as goal

abbrev pub invariant-loop-line : goal.invariant-loop-line
invariant-loop-line l = IsReached l.cluster
