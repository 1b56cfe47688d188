use Rattle.std.proofs.Common.{◌≡◌, subst, ℕ, length, Err, arith}
use Rattle.std.proofs.lemmas.Grind.{common_steps}
use Rattle.std.proofs.lemmas.Result.{err_from_is_err_and}
use Rattle.std.specs.Io.KnownBytes.{prepend_known}
use Rattle.ld_io.specs.Input.{left_of}
use Rattle.ld_rounds.specs.Input.{Gives}
use Rattle.ld_rounds.specs.declared.payloads.InputFault.TheVariants.{BadLine}
use Rattle.ld_cli.specs.Payloads.{input_after}
use Rattle.ld_cli.specs.declared.lines.Ending.TheVariants as endings
use Rattle.ld_cli.proofs.Known.{takes_known}
use Rattle.ld_cli.proofs.PayloadLines.{request_gives, unspelt_gives, cut_gives, long_gives, end_gives}
use Rattle.ld_cli.proofs.payloads.Held.next.Goals as goal

pub returns-in_err-request-in-Ok-Line-clause-gives : goal.returns-in_err-request-in-Ok-Line-clause-gives
returns-in_err-request-in-Ok-Line-clause-gives g c =
    let p = err_from_is_err_and c.from_residual.result c.from_residual.ensures.1 in
    let takes = rw c.in-Ok-Line.field-0-is at c.in-Ok-Line.ensures.taken in
    let taken = takes_known (g.I.Source.may_be c.next_line.new.input) c.args.self.now.buffer c.next_line.new.buffer (g.I.Source.gave c.args.input.now) (g.I.Source.gave c.next_line.new.input) c.next_line.new.line.items endings.Line
    (g.met.I.Source.some c.next_line.new.input) takes (g.I.Source.known c.args.input.now) (g.I.Source.known c.next_line.new.input) c.next_line.ensures.steady (g.met.I.Source.knows c.next_line.new.input) in
    let number = c.saturating_add-self.result in
    let line = c.next_line.new.line.items in
    let fault = c.in_err-request-in-Ok-Line.field-0.0 in
    rw (p.1, p.2) (unspelt_gives c.args.self.now.batches c.args.self.now.number number c.saturating_add-self.ensures line taken.0 (prepend_known c.args.self.now.buffer (left_of (g.I.Source.known c.args.input.now) (g.I.Source.gave c.args.input.now))) (prepend_known c.next_line.new.buffer (left_of (g.I.Source.known c.next_line.new.input) (g.I.Source.gave c.next_line.new.input))) fault taken.1 taken.2
    c.in_err-request-in-Ok-Line.ensures)

pub returns-in_ok-request-in-Ok-Line-clause-gives : goal.returns-in_ok-request-in-Ok-Line-clause-gives
returns-in_ok-request-in-Ok-Line-clause-gives g c =
    let takes = rw c.in-Ok-Line.field-0-is at c.in-Ok-Line.ensures.taken in
    let taken = takes_known (g.I.Source.may_be c.next_line.new.input) c.args.self.now.buffer c.next_line.new.buffer (g.I.Source.gave c.args.input.now) (g.I.Source.gave c.next_line.new.input) c.next_line.new.line.items endings.Line
    (g.met.I.Source.some c.next_line.new.input) takes (g.I.Source.known c.args.input.now) (g.I.Source.known c.next_line.new.input) c.next_line.ensures.steady (g.met.I.Source.knows c.next_line.new.input) in
    request_gives c.args.self.now.batches c.args.self.now.number c.saturating_add-self.result c.saturating_add-self.ensures c.next_line.new.line.items taken.0 (prepend_known c.args.self.now.buffer (left_of (g.I.Source.known c.args.input.now) (g.I.Source.gave c.args.input.now))) (prepend_known c.next_line.new.buffer (left_of (g.I.Source.known c.next_line.new.input) (g.I.Source.gave c.next_line.new.input))) c.in_ok-request-in-Ok-Line.request taken.1 taken.2
    c.in_ok-request-in-Ok-Line.ensures

pub returns-in-Ok-End-clause-gives : goal.returns-in-Ok-End-clause-gives
returns-in-Ok-End-clause-gives g c =
    let takes = rw c.in-Ok-End.field-0-is at c.in-Ok-End.ensures.taken in
    let taken = takes_known (g.I.Source.may_be c.next_line.new.input) c.args.self.now.buffer c.next_line.new.buffer (g.I.Source.gave c.args.input.now) (g.I.Source.gave c.next_line.new.input) c.next_line.new.line.items endings.End
    (g.met.I.Source.some c.next_line.new.input) takes (g.I.Source.known c.args.input.now) (g.I.Source.known c.next_line.new.input) c.next_line.ensures.steady (g.met.I.Source.knows c.next_line.new.input) in
    end_gives c.args.self.now.batches c.args.self.now.number c.saturating_add-self.result (prepend_known c.args.self.now.buffer (left_of (g.I.Source.known c.args.input.now) (g.I.Source.gave c.args.input.now))) (prepend_known c.next_line.new.buffer (left_of (g.I.Source.known c.next_line.new.input) (g.I.Source.gave c.next_line.new.input))) taken.0 taken.1 taken.2

pub returns-in-Ok-Cut-clause-gives : goal.returns-in-Ok-Cut-clause-gives
returns-in-Ok-Cut-clause-gives g c =
    let takes = rw c.in-Ok-Cut.field-0-is at c.in-Ok-Cut.ensures.taken in
    let taken = takes_known (g.I.Source.may_be c.next_line.new.input) c.args.self.now.buffer c.next_line.new.buffer (g.I.Source.gave c.args.input.now) (g.I.Source.gave c.next_line.new.input) c.next_line.new.line.items endings.Cut
    (g.met.I.Source.some c.next_line.new.input) takes (g.I.Source.known c.args.input.now) (g.I.Source.known c.next_line.new.input) c.next_line.ensures.steady (g.met.I.Source.knows c.next_line.new.input) in
    let number = c.saturating_add-self.result in
    let a = prepend_known c.args.self.now.buffer (left_of (g.I.Source.known c.args.input.now) (g.I.Source.gave c.args.input.now)) in
    let b = prepend_known c.next_line.new.buffer (left_of (g.I.Source.known c.next_line.new.input) (g.I.Source.gave c.next_line.new.input)) in
    let len : length c.next_line.new.line.items ≡ c.len.result = grind (arith, common_steps, c.len.ensures) in
    subst (λ (n : ℕ). Gives (input_after c.args.self.now.batches c.args.self.now.number a) (input_after c.args.self.now.batches number b) (Err (BadLine number n))) len
    (cut_gives c.args.self.now.batches c.args.self.now.number number c.saturating_add-self.ensures c.next_line.new.line.items taken.0 a b taken.1 taken.2 taken.3 taken.4)

pub returns-in-Ok-Long-clause-gives : goal.returns-in-Ok-Long-clause-gives
returns-in-Ok-Long-clause-gives g c =
    let takes = rw c.in-Ok-Long.field-0-is at c.in-Ok-Long.ensures.taken in
    let taken = takes_known (g.I.Source.may_be c.next_line.new.input) c.args.self.now.buffer c.next_line.new.buffer (g.I.Source.gave c.args.input.now) (g.I.Source.gave c.next_line.new.input) c.next_line.new.line.items endings.Long
    (g.met.I.Source.some c.next_line.new.input) takes (g.I.Source.known c.args.input.now) (g.I.Source.known c.next_line.new.input) c.next_line.ensures.steady (g.met.I.Source.knows c.next_line.new.input) in
    long_gives c.args.self.now.batches c.args.self.now.number c.saturating_add-self.result c.saturating_add-self.ensures c.next_line.new.line.items taken.0 (prepend_known c.args.self.now.buffer (left_of (g.I.Source.known c.args.input.now) (g.I.Source.gave c.args.input.now))) (prepend_known c.next_line.new.buffer (left_of (g.I.Source.known c.next_line.new.input) (g.I.Source.gave c.next_line.new.input))) taken.1 taken.2
