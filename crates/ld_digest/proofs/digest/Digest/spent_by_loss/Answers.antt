use Rattle.std.proofs.Common.{◌∙◌, ap, sym}
use Rattle.ld_digest.specs.Gathering.{Gathering}
use Rattle.ld_digest.proofs.Spending.{counted, spent_with, lost_by, spent_loss}
use Rattle.ld_digest.proofs.digest.Digest.spent_by_loss.Goals as goal

pub returns : goal.returns
returns c =
    let i = c.loop-told.invariant in
    let y = c.args.node in
    c.spent.ensures ∙ (counted c.self.inside.spec (λ t. t.whole) (lost_by y) c.args.self.now.told c.deref-told-items.result.now c.loop-told.told-index c.loop-told.count.found c.loop-told.count.each c.loop-told-test.false i.0 i.1
    ∙ (ap (λ (g : Gathering). spent_with g.spec (λ t. t.whole) (lost_by y) c.args.self.now.told) c.self.view_is ∙ sym (spent_loss c.args.self.now.spec y c.args.self.now.told)))
