use Rattle.std.proofs.Common.{sym, ◌∙◌, subst}
use Rattle.ld_host.specs.Stands.{StandsAs}
use Rattle.ld_host.proofs.host.Host.on_msg.Goals as goal

pub returns-clause-idle : goal.returns-clause-idle
returns-clause-idle c settings n x stands idle =
    absurd (idle (subst (λ s. StandsAs settings n s x) (sym c.replace-state.ensures.value ∙ c.in-Up.is) stands.state).status)
