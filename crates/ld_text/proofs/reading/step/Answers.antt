use Rattle.std.proofs.Common.{◌++◌, ◌+◌, ◌*◌, ap, refl}
use Rattle.ld_text.specs.declared.reading.At.TheVariants.{Plain}
use Rattle.ld_text.specs.Text.{value, bytes_from}
use Rattle.ld_text.proofs.Stepping.{plain_escape, plain_put, escape_high, escape_put, high_low, low_put, put_step}
use Rattle.ld_text.proofs.reading.step.Goals as goal

pub returns-in-Plain : goal.returns-in-Plain
returns-in-Plain c = λ text. rw c.in-Plain.is (ap (λ xs. c.args.out.now.items ++ xs) (plain_escape c.args.byte text c.if-byte-eq92.true))

pub returns-in-Plain-2 : goal.returns-in-Plain-2
returns-in-Plain-2 c = put_step c.args.at c.args.byte c.args.byte c.args.out.now.items c.put.new.out.items c.put.result (λ text. rw c.in-Plain.is (plain_put c.args.byte text c.if-byte-eq92.false)) c.put.ensures

pub returns-in-Escape : goal.returns-in-Escape
returns-in-Escape c = λ text. rw c.in-Escape.is (ap (λ xs. c.args.out.now.items ++ xs) (escape_high c.args.byte text c.if-byte-eq120.true))

pub returns-in-Escape-2 : goal.returns-in-Escape-2
returns-in-Escape-2 c = put_step c.args.at c.args.byte c.escaped.result c.args.out.now.items c.put-in-Escape-2.new.out.items c.put-in-Escape-2.result (λ text. rw c.in-Escape.is (rw c.escaped.ensures (escape_put c.args.byte text c.if-byte-eq120.false))) c.put-in-Escape-2.ensures

pub returns-in-High : goal.returns-in-High
returns-in-High c = λ text. rw c.in-High.is (ap (λ xs. c.args.out.now.items ++ xs) (high_low c.args.byte text))

pub returns-in-Some : goal.returns-in-Some
returns-in-Some c = put_step c.args.at c.args.byte c.in-Some.byte c.args.out.now.items c.put-in-Some.new.out.items c.put-in-Some.result (λ text. rw c.in-Low.is (rw c.in-Some.ensures (low_put c.in-Low.high c.args.byte text))) c.put-in-Some.ensures

pub returns-in-None : goal.returns-in-None
returns-in-None c = (λ text. record { first = 16 * value c.in-Low.high + value c.args.byte; rest = bytes_from Plain text; is = rw c.in-Low.is (low_put c.in-Low.high c.args.byte text); great = c.in-None.ensures }, refl)
