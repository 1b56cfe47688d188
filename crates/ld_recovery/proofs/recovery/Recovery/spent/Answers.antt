use Rattle.std.proofs.Common.{◌∙◌, ap, Bool}
use Rattle.std.specs.Prelude.{◌&&◌}
use Rattle.ld_recovery.specs.Recovering.{Recovering, is_spent_stage}
use Rattle.ld_recovery.proofs.recovery.Recovery.spent.Goals as goal

pub returns-then-goes_on : goal.returns-then-goes_on
returns-then-goes_on c =
    let a = c.self.inside in
    c.spent.ensures a.epoch a.ballot c.self.invariant.0
    ∙ (ap (λ (r : Recovering). is_spent_stage r.recovery.spec r.recovery.stage) c.self.view_is ∙ ap (λ (b : Bool). b && is_spent_stage c.args.self.now.recovery.spec c.args.self.now.recovery.stage) c.if-goes_on.ensures)
