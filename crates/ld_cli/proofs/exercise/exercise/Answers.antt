use Rattle.std.proofs.Common.{ap, ◌∙◌, ◌+◌, Some}
use Rattle.ld_maker.specs.Tally.{summary}
use Rattle.ld_cli.proofs.MadeRun.{exercised}
use Rattle.ld_cli.proofs.exercise.exercise.Goals as goal

pub returns-in-Ok-clause-exercised : goal.returns-in-Ok-clause-exercised
returns-in-Ok-clause-exercised g c =
    exercised c.args.seed c.args.events (Some (g.O.Sink.written c.args.out.now)) (Some (g.O.Sink.written c.write_all.new.out)) c.in_ok-line.line.items c.deref.result.now
    c.in_ok-tally.tally c.in_ok-tally.ensures (c.in_ok-line.ensures ∙ ap (λ n. summary (n + 7) c.in_ok-tally.tally) c.from.ensures) c.deref.ensures.value c.in-Ok.ensures.written
