use Rattle.std.proofs.Common.{arith}
use Rattle.std.proofs.lemmas.Result.{err_from_is_err_and}
use Rattle.ld_cli.proofs.PlayLoop.{begun, played, replayed, off_later, cut_here, cut_in, all_given, read_cuts, read_stops, write_cuts, write_stops, spelt_counts}
use Rattle.ld_cli.proofs.replay.play.Goals as goal

pub events-init : goal.events-init
events-init g c = (
  λ all may. (may, λ bytes took. begun _ _ _ _ c.requires.past c.requires.reached took),
  omega (arith, c.requires.fits),
  omega arith,
  omega arith,
  c.requires.reached,
)

pub events-preserved : goal.events-preserved
events-preserved g c =
    let kept = c.events.invariant in
    let taken = rw c.in-Taken.is at c.in_ok-event.ensures.taken in
    let fewer = rw c.in-Taken.is at c.in_ok-event.ensures.budget in (
      λ all may. let before = kept.0 all (c.in_ok-event.ensures.fed all may) in
          (before.0, λ bytes took. played _ _ _ _ _ _ _ _ _ _ (before.1 bytes took) (taken all may).0 (taken all may).1 c.in_ok-perform-in-Taken.ensures.step c.in_ok-perform-in-Taken.ensures.written),
      omega (arith, fewer, kept.1),
      omega (arith, kept.2, c.in_ok-event.ensures.later),
      omega (arith, kept.3, c.in_ok-perform-in-Taken.ensures.later),
      c.in_ok-perform-in-Taken.ensures.step.reached,
    )

pub perform-requires-clause-reached : goal.perform-requires-clause-reached
perform-requires-clause-reached g c = c.events.invariant.4

pub returns-in_err-event-clause-ends : goal.returns-in_err-event-clause-ends
returns-in_err-event-clause-ends g c = λ all bytes may took.
    let p = err_from_is_err_and c.from_residual.result c.from_residual.ensures.1 in
    rw (p.1, p.2) (read_cuts _ _ _ _ _ _ c.in_err-event.ensures.cause (cut_here _ _ _ _ _ _ ((c.events.invariant.0 all (c.in_err-event.ensures.fed all may)).1 bytes took)))

pub returns-in_err-perform-in-Taken-clause-ends : goal.returns-in_err-perform-in-Taken-clause-ends
returns-in_err-perform-in-Taken-clause-ends g c = λ all bytes may took.
    let p = err_from_is_err_and c.from_residual-in_err-perform-in-Taken.result c.from_residual-in_err-perform-in-Taken.ensures.1 in
    let taken = rw c.in-Taken.is at c.in_ok-event.ensures.taken all may in
    rw (p.1, p.2) (write_cuts _ _ _ _ _ _ c.in_err-perform-in-Taken.ensures.cause
    (cut_in _ _ _ _ _ _ _ _ _ ((c.events.invariant.0 all (c.in_ok-event.ensures.fed all may)).1 bytes took) taken.0 taken.1 c.in_err-perform-in-Taken.ensures.written))

pub returns-in-End-clause-ends : goal.returns-in-End-clause-ends
returns-in-End-clause-ends g c = λ all bytes may took.
    replayed _ _ _ _ _ _ ((c.events.invariant.0 all (c.in_ok-event.ensures.fed all may)).1 bytes took) (rw c.in-End.is at c.in_ok-event.ensures.taken all may).0

pub returns-in-End-clause-read_to_end : goal.returns-in-End-clause-read_to_end
returns-in-End-clause-read_to_end g c = λ all may.
    all_given _ _ all (g.met.I.Source.begins c.next_event.new.input all may) (rw c.in-End.is at c.in_ok-event.ensures.taken all may).1

pub returns-in-Off-clause-ends : goal.returns-in-Off-clause-ends
returns-in-Off-clause-ends g c = λ all bytes may took.
    off_later _ _ _ _ _ _ _ ((c.events.invariant.0 all (c.in_ok-event.ensures.fed all may)).1 bytes took) (rw c.in-Off.is at c.in_ok-event.ensures.taken all may)

pub returns-in_err-perform-in-Taken-clause-cause : goal.returns-in_err-perform-in-Taken-clause-cause
returns-in_err-perform-in-Taken-clause-cause g c =
    let p = err_from_is_err_and c.from_residual-in_err-perform-in-Taken.result c.from_residual-in_err-perform-in-Taken.ensures.1 in
    rw (p.1, p.2) (write_stops _ _ _ _ _ _ c.events.invariant.3 c.in_err-perform-in-Taken.ensures.cause)

pub returns-in_err-event-clause-cause : goal.returns-in_err-event-clause-cause
returns-in_err-event-clause-cause g c =
    let p = err_from_is_err_and c.from_residual.result c.from_residual.ensures.1 in
    rw (p.1, p.2) (read_stops _ _ _ _ _ _ c.events.invariant.2 c.in_err-event.ensures.cause)
