use Rattle.std.proofs.Common.{Some, Err, ap, sym, ◌∙◌}
use Rattle.ld_register.specs.declared.fault.RegisterFault.TheVariants as registers
use Rattle.ld_register.specs.Calls.{looked}
use Rattle.ld_sequencer.specs.declared.fault.SequencerFault.TheVariants as faults
use Rattle.ld_sequencer.proofs.Looking.{held_then, passed_err, seen_exact, seen_held, seen_closed, seen_open}
use Rattle.ld_sequencer.proofs.look.see.Goals as goal

pub returns-in_err-next-in-Some-clause-damaged : goal.returns-in_err-next-in-Some-clause-damaged
returns-in_err-next-in-Some-clause-damaged g c = λ place h t.
    let p = held_then c.look.result c.in_ok-view.view c.in_ok-view.was (λ x. looked x c.args.log c.args.epoch) (g.G.Register.holds c.args.reg.now) (g.G.Register.holds c.look.new.self) (c.look.ensures.whole t) c.look.ensures.answers in
    let q = passed_err c.from_residual-in_err-next-in-Some.result c.in_err-next-in-Some.field-0.0 (faults.Register (registers.Damaged place)) c.from_residual-in_err-next-in-Some.ensures.1 h in
    absurd (g.met.G.Register.held_is_whole c.look.new.self p.0 place p.2 (c.look_at.ensures.damaged place (c.in_err-next-in-Some.was ∙ ap Err q) (c.look.ensures.told t)))

pub returns-in_ok-next-in-Some-clause-exact : goal.returns-in_ok-next-in-Some-clause-exact
returns-in_ok-next-in-Some-clause-exact g c = λ x h.
    let s = c.look.ensures.exact x h in
    let v = seen_exact c.look.result c.in_ok-view.view c.in_ok-view.was (looked x c.args.log c.args.epoch) _ s in
    let k = c.in_ok-next-in-Some.ensures.exact x s.1 in
    (seen_closed c.args.first.now x c.args.log c.args.epoch c.args.own c.in_ok-view.view c.behind.result _ c.in_ok-next-in-Some.next v (c.in-Some.is ∙ sym (ap Some c.in-Some.summary-is)) c.behind.ensures k.0, tt, k.2)

pub returns-in_ok-next-in-Some-clause-held : goal.returns-in_ok-next-in-Some-clause-held
returns-in_ok-next-in-Some-clause-held g c = λ x h.
    let s = seen_held c.look.result c.in_ok-view.view c.in_ok-view.was (looked x c.args.log c.args.epoch) _ (c.look.ensures.answers x h) in
    let k = c.in_ok-next-in-Some.ensures.held x s.1 in
    (seen_closed c.args.first.now x c.args.log c.args.epoch c.args.own c.in_ok-view.view c.behind.result _ c.in_ok-next-in-Some.next s.0 (c.in-Some.is ∙ sym (ap Some c.in-Some.summary-is)) c.behind.ensures k.0, k.1)

pub returns-in-None-clause-exact : goal.returns-in-None-clause-exact
returns-in-None-clause-exact g c = λ x h.
    let s = c.look.ensures.exact x h in
    (seen_open c.args.first.now x c.args.log c.args.epoch c.args.own c.in_ok-view.view (seen_exact c.look.result c.in_ok-view.view c.in_ok-view.was (looked x c.args.log c.args.epoch) _ s) c.in-None.is, tt, s.1)

pub returns-in-None-clause-held : goal.returns-in-None-clause-held
returns-in-None-clause-held g c = λ x h.
    let s = seen_held c.look.result c.in_ok-view.view c.in_ok-view.was (looked x c.args.log c.args.epoch) _ (c.look.ensures.answers x h) in
    (seen_open c.args.first.now x c.args.log c.args.epoch c.args.own c.in_ok-view.view s.0 c.in-None.is, s.1)
