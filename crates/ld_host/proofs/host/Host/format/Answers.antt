use Rattle.std.proofs.Common.{sym, ◌∙◌, subst}
use Rattle.ld_host.specs.Stands.{StandsAs}
use Rattle.ld_host.specs.Done.{HasFormatted}
use Rattle.ld_host.proofs.host.Host.format.Goals as goal

pub returns-clause-blank : goal.returns-clause-blank
returns-clause-blank g c n x r stands blank tells =
    let config = c.args.config.now in
    let tells_then = g.G.Register.tells c.format.new.reg in
    let is = subst (λ s. StandsAs config n s x) (sym c.replace-state.ensures.value ∙ c.in-Blank.is) stands.state in
    let has = c.in_ok-state.ensures.formats x r is tells in
    let here = subst (λ k. HasFormatted (λ y. StandsAs config k c.in_ok-state.state y) tells_then x k r c.in_ok-state.formatted) stands.id has in
    record { node = here.node; register = here.register; stands = record { id = stands.id; state = subst (λ s. StandsAs config n s here.node) (sym c.put-2.ensures) here.stands }; told = here.told; does = here.does }

pub returns-clause-idle : goal.returns-clause-idle
returns-clause-idle g c settings n x stands idle =
    absurd (idle (subst (λ s. StandsAs settings n s x) (sym c.replace-state.ensures.value ∙ c.in-Blank.is) stands.state).status)
