use Rattle.std.proofs.Common.{sym, subst}
use Rattle.ld_recovery.specs.declared.stage.Stage.{Stage}
use Rattle.ld_recovery.specs.Stages.{IsOf}
use Rattle.ld_recovery.proofs.stage.Stage.try_again.Goals as goal

pub returns-in_err-self-clause-of : goal.returns-in_err-self-clause-of
returns-in_err-self-clause-of c = λ spec epoch h. subst (λ (s : Stage). IsOf spec epoch c.args.sender.now.epoch s) (sym c.replace-stage.ensures.after) tt

pub returns-clause-of : goal.returns-clause-of
returns-clause-of c = λ spec epoch h. c.in_ok-self.ensures.of spec epoch (subst (λ (s : Stage). IsOf spec epoch c.args.sender.now.epoch s) (sym c.replace-stage.ensures.value) h)
