use Rattle.std.proofs.Common.{subst, length, drop, Some, List, ℕ}
use Rattle.ld_cli.specs.Ends.{IsReplayed}
use Rattle.ld_cli.proofs.OneReading.{never_off}
use Rattle.ld_cli.proofs.replay.replayed.Goals as goal

pub returns-in-Ok-clause-transcribed : goal.returns-in-Ok-clause-transcribed
returns-in-Ok-clause-transcribed g c = λ is.
    let some = g.met.I.Source.some c.replay.new.input in
    let ended = rw c.in-Ok.is at c.replay.ensures.read_to_end in
    let ends = rw c.in-Ok.is at c.replay.ensures.ends in
    subst (λ (all : List ℕ). IsReplayed (drop (length (g.I.Source.gave c.args.input.now)) all) (Some (g.O.Sink.written c.args.out.now)) (Some (g.O.Sink.written c.replay.new.out))) (ended some.all some.may) (ends some.all some.may)

pub returns-in-Err-BadSchedule-clause-complete : goal.returns-in-Err-BadSchedule-clause-complete
returns-in-Err-BadSchedule-clause-complete g c = λ all may schedule.
    never_off _ _ _ _ _ schedule (rw (c.in-Err-BadSchedule.is, c.in-Err-BadSchedule.field-0-is) at c.replay.ensures.ends all may)
