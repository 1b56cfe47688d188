use Rattle.std.proofs.Common.{sym, ◌∙◌, ap, subst}
use Rattle.ld_host.specs.States.{disk_in}
use Rattle.ld_host.specs.Stands.{StandsAs}
use Rattle.ld_machine.specs.Disk.{load}
use Rattle.ld_host.proofs.Stopping.{lies_in}
use Rattle.ld_host.proofs.host.Host.load.Goals as goal

pub returns : goal.returns
returns c n x stands =
    let config = c.args.config.now in
    let lies = lies_in config n c.args.self.now.state x c.in-Some.disk stands.state (ap disk_in (sym c.replace-state.ensures.value) ∙ (sym c.into_disk.ensures ∙ c.in-Some.is)) in
    let done = c.in_ok-state.ensures.stands x lies in
    (record { id = stands.id; state = subst (λ s. StandsAs config n s (load x)) (sym c.put.ensures) (subst (λ k. StandsAs config k c.in_ok-state.state (load x)) stands.id done.0) }, done.1)
