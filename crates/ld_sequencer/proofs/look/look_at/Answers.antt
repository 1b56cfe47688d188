use Rattle.ld_register.specs.Calls.{looked}
use Rattle.ld_sequencer.proofs.Looking.{seen_exact, seen_held}
use Rattle.ld_sequencer.proofs.Telling.{looked_is}
use Rattle.ld_sequencer.proofs.look.look_at.Goals as goal

pub returns-clause-exact : goal.returns-clause-exact
returns-clause-exact g c = λ x h.
    let s = c.look.ensures.exact x h in (
      looked_is c.args.first.now x c.args.log c.args.epoch c.in-Some.epoch c.in_ok-view.view c.unwrap_or.result c.in-Some.is (seen_exact c.look.result c.in_ok-view.view c.in_ok-view.was (looked x c.args.log c.in-Some.epoch) _ s) c.unwrap_or.ensures,
      tt,
      s.1,
    )

pub returns-clause-held : goal.returns-clause-held
returns-clause-held g c = λ x h.
    let s = seen_held c.look.result c.in_ok-view.view c.in_ok-view.was (looked x c.args.log c.in-Some.epoch) _ (c.look.ensures.answers x h) in
    (looked_is c.args.first.now x c.args.log c.args.epoch c.in-Some.epoch c.in_ok-view.view c.unwrap_or.result c.in-Some.is s.0 c.unwrap_or.ensures, s.1)
