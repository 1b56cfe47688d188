use Rattle.ld_op.specs.Whole.{HaveEntries}
use Rattle.ld_op.proofs.log.LogState.first_in.Given as goal

abbrev pub invariant-loop-number : goal.invariant-loop-number
invariant-loop-number l = HaveEntries l.self.log l.fn.from l.epoch l.number
