use Rattle.std.proofs.Common.{◌+◌, Err, ap, ◌∙◌}
use Rattle.ld_register.specs.declared.fault.RegisterFault.TheVariants as registers
use Rattle.ld_register.specs.Calls.{looked}
use Rattle.ld_sequencer.proofs.Looking.{seen_exact, seen_held, held_then, passed_err}
use Rattle.ld_sequencer.proofs.Activating.{foresees_behind, foresees_now}
use Rattle.ld_sequencer.proofs.start.foresee.Goals as goal

pub returns-in_err-behind-clause-damaged : goal.returns-in_err-behind-clause-damaged
returns-in_err-behind-clause-damaged g c = λ place h t.
    let p = held_then c.look.result c.in_ok-view.view c.in_ok-view.was (λ x. looked x c.args.spec.now.log 0) (g.G.Register.holds c.args.reg.now) (g.G.Register.holds c.look.new.self) (c.look.ensures.whole t) c.look.ensures.answers in
    let q = passed_err c.from_residual-in_err-behind.result c.in_err-behind.field-0.0 (registers.Damaged place) c.from_residual-in_err-behind.ensures.1 h in
    absurd (g.met.G.Register.held_is_whole c.look.new.self p.0 place p.2 (c.look-then-view.ensures.damaged place (c.in_err-behind.was ∙ ap Err q) (c.look.ensures.told t)))

pub returns-then-view-clause-exact : goal.returns-then-view-clause-exact
returns-then-view-clause-exact g c = λ x h.
    let log = c.args.spec.now.log in
    let first = c.look.ensures.exact x h in
    let last = c.look-then-view.ensures.exact x first.1 in
    let n = c.next_grant.ensures in (
      foresees_behind x c.args.spec.now c.in_ok-view.view c.next_grant.result (seen_exact c.look.result c.in_ok-view.view c.in_ok-view.was (looked x log 0) _ first) n.above n.lce c.in_ok-behind.behind c.if-view.true
          (seen_exact c.look-then-view.result c.in_ok-behind.behind c.in_ok-behind.was (looked x log (c.in_ok-view.view.lce + 1)) _ last) n.next,
      tt,
      last.1,
    )

pub returns-then-view-clause-held : goal.returns-then-view-clause-held
returns-then-view-clause-held g c = λ x h.
    let log = c.args.spec.now.log in
    let first = seen_held c.look.result c.in_ok-view.view c.in_ok-view.was (looked x log 0) _ (c.look.ensures.answers x h) in
    let last = seen_held c.look-then-view.result c.in_ok-behind.behind c.in_ok-behind.was (looked x log (c.in_ok-view.view.lce + 1)) _ (c.look-then-view.ensures.answers x first.1) in
    let n = c.next_grant.ensures in
    (foresees_behind x c.args.spec.now c.in_ok-view.view c.next_grant.result first.0 n.above n.lce c.in_ok-behind.behind c.if-view.true last.0 n.next, last.1)

pub returns-clause-exact : goal.returns-clause-exact
returns-clause-exact g c = λ x h.
    let first = c.look.ensures.exact x h in
    let n = c.next_grant-2.ensures in
    (foresees_now x c.args.spec.now c.in_ok-view.view c.next_grant-2.result (seen_exact c.look.result c.in_ok-view.view c.in_ok-view.was (looked x c.args.spec.now.log 0) _ first) n.above n.lce c.if-view.false n.next, tt, first.1)

pub returns-clause-held : goal.returns-clause-held
returns-clause-held g c = λ x h.
    let first = seen_held c.look.result c.in_ok-view.view c.in_ok-view.was (looked x c.args.spec.now.log 0) _ (c.look.ensures.answers x h) in
    let n = c.next_grant-2.ensures in
    (foresees_now x c.args.spec.now c.in_ok-view.view c.next_grant-2.result first.0 n.above n.lce c.if-view.false n.next, first.1)
