use Rattle.std.proofs.Common.{◌≡◌, Option, ap, subst, sym, ◌∙◌}
use Rattle.std.specs.Option.{unwrap_or}
use Rattle.ld_recovery.specs.declared.state.State.{State}
use Rattle.ld_recovery.specs.Recovering.{Recovering, IsRecovery}
use Rattle.ld_recovery.specs.Stages.{shown}
use Rattle.ld_recovery.specs.States.{state_of, ended_state}
use Rattle.ld_recovery.proofs.Sound.{state_is, holds, shows_closing}
use Rattle.ld_recovery.proofs.recovery.Recovery.state.Goals as goal

pub returns-clause-holds : goal.returns-clause-holds
returns-clause-holds c =
    let a = c.self.inside in
    subst (λ (r : Recovering). IsRecovery r) c.self.view_is (holds a.spec a.epoch a.ballot a.lost a.stage a.ending c.self.invariant)

pub returns-clause-closing : goal.returns-clause-closing
returns-clause-closing c = λ y short h.
    let a = c.self.inside in
    let s : c.unwrap_or.result ≡ state_of c.args.self.now =
    c.unwrap_or.ensures ∙ (ap (λ (o : Option State). unwrap_or o c.state-2.result) c.state.ensures ∙ (ap (λ (t : State). unwrap_or (ended_state a.ending) t) c.state-2.ensures ∙ (state_is a.ending (shown a.stage) ∙ ap state_of c.self.view_is))) in
    shows_closing c.args.self.now y short (returns-clause-holds c) (sym s ∙ h)
