use Rattle.std.proofs.Common.{◌∙◌, ap, sym}
use Rattle.ld_msg.specs.Sequencer.{lost_stage}
use Rattle.ld_recovery.specs.declared.stage.Stage.{Stage}
use Rattle.ld_recovery.specs.Recovering.{is_spent_stage}
use Rattle.ld_recovery.specs.Stages.{shown}
use Rattle.ld_recovery.proofs.Spending.{none_lost_spent}
use Rattle.ld_recovery.proofs.stage.Stage.spent_by_loss.Goals as goal

pub returns-in-Stopped : goal.returns-in-Stopped
returns-in-Stopped c = λ epoch ballot h. none_lost_spent c.args.spec.now c.args.node c.from.result c.len.result c.from.ensures c.len.ensures.count ∙ sym (ap (λ (s : Stage). is_spent_stage c.args.spec.now (lost_stage c.args.node (shown s))) c.in-Stopped.is)
