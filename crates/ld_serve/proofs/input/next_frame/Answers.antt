use Rattle.ld_framed.proofs.Hearing.{heard_as}
use Rattle.ld_serve.proofs.input.next_frame.Goals as goal

pub returns-in-Err-clause-heard : goal.returns-in-Err-clause-heard
returns-in-Err-clause-heard g c = heard_as _ _ _ _ _ c.stop_of.ensures.told c.in-Err.ensures.heard

pub returns-in-Err-clause-cause : goal.returns-in-Err-clause-cause
returns-in-Err-clause-cause g c = (c.in-Err.ensures.cause.0, c.stop_of.ensures.told _ c.in-Err.ensures.cause.1)

pub returns-in-Err-clause-counts : goal.returns-in-Err-clause-counts
returns-in-Err-clause-counts g c = c.stop_of.ensures.counts _ _ c.in-Err.ensures.counts

pub returns-in-Err-clause-waiting : goal.returns-in-Err-clause-waiting
returns-in-Err-clause-waiting g c =
    let some = c.in-Err.ensures.waiting in
    record { held = some.held; reads = some.reads; cause = c.stop_of.ensures.told some.held some.cause }
