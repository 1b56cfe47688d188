use Rattle.std.proofs.Common.{subst}
use Rattle.ld_recovery.specs.declared.stage.Stage.{Stage}
use Rattle.ld_recovery.specs.Stages.{IsOf}
use Rattle.ld_recovery.proofs.stage.on_lost.Goals as goal

pub returns-in-Stores-clause-of : goal.returns-in-Stores-clause-of
returns-in-Stores-clause-of c =
    let s = c.args.scope.now in
    c.closed_if_ready.ensures.of s.spec.now s.epoch (subst (λ (t : Stage). IsOf s.spec.now s.epoch s.sender.now.epoch t) c.in-Stores.is c.requires.of)
