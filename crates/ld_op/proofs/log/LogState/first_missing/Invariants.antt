use Rattle.std.proofs.Common.{◌+◌, ◌-◌}
use Rattle.ld_lsn.specs.Number.{epoch_of}
use Rattle.ld_op.specs.Whole.{IsWhole}
use Rattle.ld_op.proofs.log.LogState.first_missing.Given as goal

abbrev pub invariant-epochs : goal.invariant-epochs
invariant-epochs l = IsWhole l.self.log l.from

abbrev pub decreases-epochs : goal.decreases-epochs
decreases-epochs l = l.self.log.lost_to + 1 - epoch_of l.from
