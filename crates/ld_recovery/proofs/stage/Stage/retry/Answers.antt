use Rattle.std.proofs.Common.{◌∙◌, ap, subst}
use Rattle.ld_recovery.specs.declared.stage.Stage.{Stage}
use Rattle.ld_recovery.specs.Planning.{Plans}
use Rattle.ld_recovery.specs.Stages.{IsOf}
use Rattle.ld_recovery.proofs.stage.Stage.retry.Goals as goal

pub returns-in_ok-send-in-Stores-clause-of : goal.returns-in_ok-send-in-Stores-clause-of
returns-in_ok-send-in-Stores-clause-of c = λ spec epoch h. c.closed_if_ready.ensures.of spec epoch (ap (λ (p : Plans). p.spec) c.raise.ensures ∙ subst (λ (s : Stage). IsOf spec epoch c.args.sender.now.epoch s) c.in-Stores.is h)
