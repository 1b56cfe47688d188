use Rattle.std.proofs.Common.{sym, subst}
use Rattle.ld_recovery.specs.declared.stage.Stage.{Stage}
use Rattle.ld_recovery.specs.Stages.{IsOf}
use Rattle.ld_recovery.proofs.stage.Stage.lose_node.Goals as goal

pub returns-in_err-self-clause-of : goal.returns-in_err-self-clause-of
returns-in_err-self-clause-of c = subst (λ (s : Stage). IsOf c.args.scope.now.spec.now c.args.scope.now.epoch c.args.scope.now.sender.now.epoch s) (sym c.replace-stage.ensures.after) tt
