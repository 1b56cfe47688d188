use Rattle.std.proofs.Common.{subst, rules, Some}
use Rattle.std.specs.Io.KnownBytes.{Appends}
use Rattle.ld_transcript.specs.Text.{text}
use Rattle.std.specs.Prelude.{IfSome}
use Rattle.ld_rounds.specs.Ends.{IsSaid}
use Rattle.ld_rounds.proofs.Endings.{ending_said}
use Rattle.ld_rounds.proofs.visits.tell.Goals as goal

pub returns-in_err-write_lines-clause-later : goal.returns-in_err-write_lines-clause-later
returns-in_err-write_lines-clause-later g c =
    let w = c.in_err-write_lines.ensures.written in
    record { faults = c.in_err-write_lines.ensures.later; more = w.part; written = w.written }

pub returns-in-Some-clause-ending : goal.returns-in-Some-clause-ending
returns-in-Some-clause-ending g c said =
    let written : Appends (Some (g.O.Sink.written c.args.out.now)) (Some (g.O.Sink.written c.write_lines.new.out)) (text c.args.heard.lines.items) = search rules in
    ending_said (g.O.Sink.faults c.args.out.now) (g.O.Sink.faults c.write_lines.new.out) (Some (g.O.Sink.written c.args.out.now)) (Some (g.O.Sink.written c.write_lines.new.out)) c.args.heard.lines.items c.in-Some.end (subst (λ o. IfSome o (IsSaid c.args.heard.lines.items)) c.in-Some.is said) written

pub returns-in-Some-clause-later : goal.returns-in-Some-clause-later
returns-in-Some-clause-later g c = record { faults = c.in_ok-write_lines.ensures.later; more = _; written = c.in_ok-write_lines.ensures.written }

pub returns-clause-later : goal.returns-clause-later
returns-clause-later g c = record { faults = c.in_ok-write_lines.ensures.later; more = _; written = c.in_ok-write_lines.ensures.written }
