use Rattle.std.proofs.Common.{◌≡◌, ◌∙◌, sym, false}
use Rattle.ld_msg.specs.Register.{is_crowded}
use Rattle.ld_sequencer.specs.Looks.{shows}
use Rattle.ld_sequencer.specs.Whole.{reply_acts}
use Rattle.ld_sequencer.proofs.Closing.{due_of, due_exact, due_acted, due_held, due_changed}
use Rattle.ld_sequencer.proofs.whole.Sequencer.take.Goals as goal

pub returns-in-Some-clause-exact : goal.returns-in-Some-clause-exact
returns-in-Some-clause-exact g c = λ x h.
    let w = c.args.self.now in let m = c.hear.new.self in let t = c.in-Some.due in let a = reply_acts (shows c.args.next.now) w c.args.msg.now.from c.args.msg.now.body in
    let d = due_of w m c.in_ok-report.report c.args.out.now c.hear.new.out a c.closing.result c.is_some-was_closing.result t c.in_ok-report.ensures.acted c.hear.ensures.fresh c.closing.ensures.closing c.is_some-was_closing.ensures c.if-was_closing.false (sym c.closing-2.ensures.closing ∙ c.in-Some.is) in
    due_exact w m c.close.new.self c.close.result c.args.out.now c.hear.new.out c.close.new.out a t x (is_crowded x m.sequencer.log ≡ false) (g.G.Register.tells c.close.new.reg) d (c.close.ensures.exact x h)

pub returns-in-Some-clause-acted : goal.returns-in-Some-clause-acted
returns-in-Some-clause-acted g c =
    let w = c.args.self.now in let m = c.hear.new.self in let t = c.in-Some.due in let a = reply_acts (shows c.args.next.now) w c.args.msg.now.from c.args.msg.now.body in
    let d = due_of w m c.in_ok-report.report c.args.out.now c.hear.new.out a c.closing.result c.is_some-was_closing.result t c.in_ok-report.ensures.acted c.hear.ensures.fresh c.closing.ensures.closing c.is_some-was_closing.ensures c.if-was_closing.false (sym c.closing-2.ensures.closing ∙ c.in-Some.is) in
    due_acted w m c.close.new.self c.close.result c.args.out.now c.hear.new.out c.close.new.out a t d c.close.ensures.acted

pub returns-in-Some-clause-held : goal.returns-in-Some-clause-held
returns-in-Some-clause-held g c = λ x h.
    let w = c.args.self.now in let m = c.hear.new.self in let t = c.in-Some.due in let a = reply_acts (shows c.args.next.now) w c.args.msg.now.from c.args.msg.now.body in
    let d = due_of w m c.in_ok-report.report c.args.out.now c.hear.new.out a c.closing.result c.is_some-was_closing.result t c.in_ok-report.ensures.acted c.hear.ensures.fresh c.closing.ensures.closing c.is_some-was_closing.ensures c.if-was_closing.false (sym c.closing-2.ensures.closing ∙ c.in-Some.is) in
    due_held w m c.close.new.self c.close.result c.args.out.now c.hear.new.out c.close.new.out a t x (g.G.Register.holds c.close.new.reg) d (c.close.ensures.held x h)

pub returns-in-Some-clause-done_or_not : goal.returns-in-Some-clause-done_or_not
returns-in-Some-clause-done_or_not g c = λ z.
    let w = c.args.self.now in let m = c.hear.new.self in let t = c.in-Some.due in let a = reply_acts (shows c.args.next.now) w c.args.msg.now.from c.args.msg.now.body in
    let d = due_of w m c.in_ok-report.report c.args.out.now c.hear.new.out a c.closing.result c.is_some-was_closing.result t c.in_ok-report.ensures.acted c.hear.ensures.fresh c.closing.ensures.closing c.is_some-was_closing.ensures c.if-was_closing.false (sym c.closing-2.ensures.closing ∙ c.in-Some.is) in
    due_changed w m c.args.out.now c.hear.new.out a t (g.G.Register.may_hold c.args.reg.now) (g.G.Register.may_hold c.close.new.reg) d (c.close.ensures.done_or_not z)

pub returns-in-Some-clause-unsent : goal.returns-in-Some-clause-unsent
returns-in-Some-clause-unsent g c = λ e.
    let w = c.args.self.now in let m = c.hear.new.self in let t = c.in-Some.due in let a = reply_acts (shows c.args.next.now) w c.args.msg.now.from c.args.msg.now.body in
    let d = due_of w m c.in_ok-report.report c.args.out.now c.hear.new.out a c.closing.result c.is_some-was_closing.result t c.in_ok-report.ensures.acted c.hear.ensures.fresh c.closing.ensures.closing c.is_some-was_closing.ensures c.if-was_closing.false (sym c.closing-2.ensures.closing ∙ c.in-Some.is) in
    c.close.ensures.unsent e ∙ d.sent
