use Rattle.std.proofs.Common.{◌≤◌, ◌-◌, ◌^◌}
use Rattle.ld_op.specs.Places.{filled}
use Rattle.ld_op.specs.Closed.{AreClean}
use Rattle.ld_op.proofs.summaries.lowest_from.Given as goal

abbrev pub invariant-epochs : goal.invariant-epochs
invariant-epochs l = record {
  from : l.from ≤ l.lowest;
  below : AreClean l.from l.lowest (filled l.map.entries);
}

abbrev pub decreases-epochs : goal.decreases-epochs
decreases-epochs l = 2 ^ 32 - l.lowest
