use Rattle.std.proofs.Common.{◌∙◌, sym}
use Rattle.ld_recovery.specs.Recovering.{sender_of}
use Rattle.ld_sequencer.specs.Looks.{shows}
use Rattle.ld_sequencer.proofs.Hearing.{is_there, hears_in, hears_on, hears_end, onward_one, onward_acted, ended_acted}
use Rattle.ld_sequencer.proofs.whole.Sequencer.hear_for_recovery.Goals as goal

pub returns-in_default-clause-acted : goal.returns-in_default-clause-acted
returns-in_default-clause-acted c = absurd (is_there c.self.inside.own c.self.inside.recovery c.args.self.now c.args.msg.now.body c.self.view_is (sym c.take.ensures.value ∙ c.in_default.is) c.requires.recovery)

pub returns-in-Done-clause-acted : goal.returns-in-Done-clause-acted
returns-in-Done-clause-acted c =
    let w = c.args.self.now in let o = c.self.inside.own in let m = c.self.inside.recovery in let r = c.in-Some.recovery in let x = c.on_reply.new.self in let who = c.args.msg.now.from in let b = c.args.msg.now.body in
    let k = sym c.take.ensures.value ∙ c.in-Some.is in
    ended_acted (shows c.args.next.now) w c.go_on_behind.new.self o m r x who b c.epoch.result c.released-before.result c.risen.result c.args.out.now c.on_reply.new.out c.go_on_behind.new.out c.self.view_is k c.in_ok-on_reply.ensures.value c.epoch.ensures c.released-before.ensures c.in_ok-on_reply.ensures.sent
    c.in_ok-go_on_behind.ensures.now c.in_ok-go_on_behind.ensures.out c.risen.ensures
    (hears_end o r x (sender_of who) b c.in-Done.field-0 c.in_ok-on_reply.ensures.value (sym c.state.ensures.value ∙ c.in-Done.is) (hears_in w o m r who b c.self.view_is c.self.invariant k c.requires.recovery c.requires.quiet))

pub invariant_of-self-2 : goal.invariant_of-self-2
invariant_of-self-2 c =
    let w = c.args.self.now in let o = c.self.inside.own in let m = c.self.inside.recovery in let r = c.in-Some.recovery in let x = c.on_reply.new.self in let who = c.args.msg.now.from in let b = c.args.msg.now.body in
    let k = sym c.take.ensures.value ∙ c.in-Some.is in
    onward_one o m r x (sender_of who) b c.self.invariant k c.in_ok-on_reply.ensures.value
    (hears_on o r x (sender_of who) b c.in_ok-on_reply.ensures.value (λ z e. c.in_default-state.not-Done z (c.state.ensures.value ∙ e)) (hears_in w o m r who b c.self.view_is c.self.invariant k c.requires.recovery c.requires.quiet))

pub returns-clause-acted : goal.returns-clause-acted
returns-clause-acted c =
    let w = c.args.self.now in let o = c.self.inside.own in let m = c.self.inside.recovery in let r = c.in-Some.recovery in let x = c.on_reply.new.self in let who = c.args.msg.now.from in let b = c.args.msg.now.body in
    let k = sym c.take.ensures.value ∙ c.in-Some.is in let t = c.nothing-2.ensures in
    onward_acted (shows c.args.next.now) w o m r x c.nothing-2.result who b c.args.out.now c.on_reply.new.out c.self.view_is k c.in_ok-on_reply.ensures.value
    (hears_on o r x (sender_of who) b c.in_ok-on_reply.ensures.value (λ z e. c.in_default-state.not-Done z (c.state.ensures.value ∙ e)) (hears_in w o m r who b c.self.view_is c.self.invariant k c.requires.recovery c.requires.quiet))
    t.acked t.closed t.preempted t.failed t.released c.in_ok-on_reply.ensures.sent
