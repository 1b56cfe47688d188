use Rattle.std.proofs.Common.{◌-◌, ◌+◌, arith}
use Rattle.ld_cli.proofs.MadeRun.{making_begins, making_on, making_ends}
use Rattle.ld_cli.proofs.exercise.play_events.Goals as goal

pub events-init : goal.events-init
events-init c =
    making_begins c.args.seed c.args.events c.new-maker.result c.args.play.now.cluster c.args.play.now.tally
    (omega (arith, c.ranges.events.fits)) c.new-maker.ensures c.requires

pub events-preserved : goal.events-preserved
events-preserved c =
    making_on c.args.seed c.args.events c.events.maker c.next_event.new.self (c.args.events - c.events.counter) (c.args.events - (c.events.counter + 1))
    c.events.play.cluster c.take.new.play.cluster c.events.play.tally c.take.new.play.tally c.in_ok-event.event
    c.events.invariant (omega (arith, c.events-test.true)) c.in_ok-event.ensures.event c.in_ok-event.ensures.next
    c.in_ok-take.ensures.step c.in_ok-take.ensures.counted c.in_ok-take.ensures.room

pub returns : goal.returns
returns c =
    making_ends c.args.seed c.args.events c.events.maker (c.args.events - c.events.counter) c.events.play.cluster c.events.play.tally
    c.events.invariant (omega (arith, c.events-test.false))
