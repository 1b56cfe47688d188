use Rattle.std.proofs.Common.{sym, ◌∙◌, ap, subst}
use Rattle.ld_machine.specs.Step.{stopped}
use Rattle.ld_host.specs.States.{disk_in}
use Rattle.ld_host.specs.Stands.{StandsAs}
use Rattle.ld_host.proofs.Stopping.{stops}
use Rattle.ld_host.proofs.host.Host.stop.Goals as goal

pub returns-in-Some : goal.returns-in-Some
returns-in-Some c settings n x stands =
    record { id = stands.id; state = subst (λ s. StandsAs settings n s (stopped x)) (sym c.put.ensures) (stops settings n c.args.self.now.state x c.in-Some.disk stands.state (ap disk_in (sym c.replace-state.ensures.value) ∙ (sym c.into_disk.ensures ∙ c.in-Some.is))) }
