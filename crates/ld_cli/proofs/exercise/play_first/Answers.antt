use Rattle.std.proofs.Common.{◌∙◌, arith}
use Rattle.ld_cli.proofs.MadeRun.{can_take_first, first_on, first_done}
use Rattle.ld_cli.proofs.exercise.play_first.Goals as goal

pub loop-event-init : goal.loop-event-init
loop-event-init c = (c.requires, omega arith)

pub take-requires-clause-reached : goal.take-requires-clause-reached
take-requires-clause-reached c = c.loop-event.invariant.0.reached

pub take-requires-clause-room : goal.take-requires-clause-room
take-requires-clause-room c =
    can_take_first c.loop-event.play.cluster c.loop-event.play.tally c.deref-event-items.result.now c.loop-event.event-index (c.deref-event-items.ensures.value ∙ c.in_ok-events.ensures.events)
    (omega (arith, c.loop-event-test.true)) c.loop-event.invariant.0

pub loop-event-preserved : goal.loop-event-preserved
loop-event-preserved c = (
  first_on c.loop-event.play.cluster c.take.new.play.cluster c.loop-event.play.tally c.take.new.play.tally c.deref-event-items.result.now c.loop-event.event-index
      c.event-item.result (c.deref-event-items.ensures.value ∙ c.in_ok-events.ensures.events) (omega (arith, c.loop-event-test.true)) c.event-item.is c.loop-event.invariant.0
      c.in_ok-take.ensures.step c.in_ok-take.ensures.counted c.in_ok-take.ensures.room,
  omega (arith, c.loop-event-test.true),
)

pub returns : goal.returns
returns c =
    first_done c.loop-event.play.cluster c.loop-event.play.tally c.deref-event-items.result.now c.loop-event.event-index (c.deref-event-items.ensures.value ∙ c.in_ok-events.ensures.events)
    (omega (arith, c.loop-event-test.false, c.loop-event.invariant.1)) c.loop-event.invariant.0
