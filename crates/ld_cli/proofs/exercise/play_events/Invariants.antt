use Rattle.std.proofs.Common.{◌-◌}
use Rattle.ld_cli.proofs.MadeRun.{Making}
use Rattle.ld_cli.proofs.exercise.play_events.Given as goal

abbrev pub invariant-events : goal.invariant-events
invariant-events l = Making l.seed l.events l.maker (l.events - l.counter) l.play.cluster l.play.tally
