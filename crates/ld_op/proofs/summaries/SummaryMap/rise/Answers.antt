use Rattle.std.proofs.Common.{subst, ap, ◌∙◌}
use Rattle.ld_table.specs.Table.{find, Ordered}
use Rattle.ld_op.specs.Places.{filled}
use Rattle.ld_op.proofs.Places.{Ordered-filled}
use Rattle.ld_op.proofs.summaries.SummaryMap.rise.Goals as goal

pub returns-clause-ordered : goal.returns-clause-ordered
returns-clause-ordered c = subst (λ m. Ordered (filled m)) c.self.view_is (Ordered-filled _ c.len.ensures.ordered)

pub returns-clause-ends : goal.returns-clause-ends
returns-clause-ends c = λ e y h. c.self.invariant.ends e y (ap (λ m. find e (filled m)) c.self.view_is ∙ h)
