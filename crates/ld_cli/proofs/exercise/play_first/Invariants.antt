use Rattle.std.proofs.Common.{◌-◌, ◌+◌, ◌^◌, ◌≤◌, take, length}
use Rattle.ld_cli.specs.Exercise.{HasPlayed}
use Rattle.ld_cli.proofs.exercise.play_first.Given as goal

abbrev pub invariant-loop-event : goal.invariant-loop-event
invariant-loop-event l =
    HasPlayed l.play.cluster l.play.tally (take l.event-index l.event-items) (2 ^ 32 + 7 - l.event-index) × (l.event-index ≤ length l.event-items)
