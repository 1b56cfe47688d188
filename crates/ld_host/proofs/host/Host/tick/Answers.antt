use Rattle.std.proofs.Common.{sym, ◌∙◌, subst}
use Rattle.ld_host.specs.Stands.{StandsAs}
use Rattle.ld_host.specs.Done.{tick_done}
use Rattle.ld_host.proofs.host.Host.tick.Goals as goal

pub returns-clause-up : goal.returns-clause-up
returns-clause-up g c settings n x r stands up has closed tells =
    let runs = subst (λ s. StandsAs settings n s x) (sym c.replace-state.ensures.value ∙ c.in-Up.is) stands.state in
    let done = c.in_ok-state.ensures.stands settings n x r runs has closed tells in
    (record { id = stands.id; state = subst (λ s. StandsAs settings n s (tick_done settings n x c.args.log r).node) (sym c.put-2.ensures) done.0 }, done.1, done.2, done.3)

pub returns-clause-idle : goal.returns-clause-idle
returns-clause-idle g c settings n x stands idle =
    absurd (idle (subst (λ s. StandsAs settings n s x) (sym c.replace-state.ensures.value ∙ c.in-Up.is) stands.state).status)
