use Rattle.std.proofs.Common.{is_some, subst, sym, ap, ◌∙◌}
use Rattle.ld_op.specs.Closed.{AreSummaries}
use Rattle.ld_op.proofs.Gaps.{gap_zero}
use Rattle.ld_op.proofs.Closed.{lowest_is, isnt_there}
use Rattle.ld_op.proofs.summaries.SummaryMap.lowest_unclean.Goals as goal

pub returns-then-is_some : goal.returns-then-is_some
returns-then-is_some c = sym (gap_zero _ c.rise.ensures.ordered (ap is_some (sym c.get.ensures) ∙ (sym c.is_some.ensures ∙ c.if-is_some.true)))

pub returns-else-is_some : goal.returns-else-is_some
returns-else-is_some c = sym (lowest_is c.args.self.now c.self.inside.lowest c.rise.ensures.ordered (subst (λ m. AreSummaries m c.self.inside.lowest) c.self.view_is c.self.invariant) (isnt_there _ _ _ c.get.ensures c.is_some.ensures c.if-is_some.false))
