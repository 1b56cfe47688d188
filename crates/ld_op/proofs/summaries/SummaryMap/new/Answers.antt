use Rattle.std.proofs.Common.{subst, sym}
use Rattle.ld_op.specs.Closed.{AreSummaries}
use Rattle.ld_op.proofs.Closed.{no_summaries}
use Rattle.ld_op.proofs.summaries.SummaryMap.new.Goals as goal

pub invariant_of-result : goal.invariant_of-result
invariant_of-result c = subst (λ m. AreSummaries m 1) (sym c.new.ensures.empty) no_summaries
