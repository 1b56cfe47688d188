use Rattle.std.proofs.Common.{sym, subst}
use Rattle.ld_recovery.specs.declared.stage.Stage.{Stage}
use Rattle.ld_recovery.specs.Stages.{IsOf}
use Rattle.ld_recovery.proofs.stage.Stage.trim.Goals as goal

pub returns-clause-of : goal.returns-clause-of
returns-clause-of c = λ spec epoch h. c.on_trimmed.ensures.of spec epoch (subst (λ (s : Stage). IsOf spec epoch c.args.ballot s) (sym c.replace-stage.ensures.value) h)
