use Rattle.std.proofs.Common.{◌≡◌, ◌∙◌, sym, false}
use Rattle.ld_msg.specs.Register.{Granted, is_crowded}
use Rattle.ld_sequencer.specs.Whole.{due_acts}
use Rattle.ld_sequencer.proofs.Serving.{first_of}
use Rattle.ld_sequencer.proofs.Closing.{tries_due, none_exact, none_acted, into_exact, into_acted, into_held, into_changed}
use Rattle.ld_sequencer.proofs.whole.Sequencer.close_due.Goals as goal

pub returns-in-Some-clause-exact : goal.returns-in-Some-clause-exact
returns-in-Some-clause-exact g c = λ x h.
    let w = c.args.self.now in let t = c.in-Some.due in
    into_exact w c.close.new.self w.sequencer c.close.result c.args.out.now c.close.new.out (due_acts w) t x (is_crowded x w.sequencer.log ≡ false) (g.G.Register.tells c.close.new.reg) (tries_due w t (sym c.closing.ensures.closing ∙ c.in-Some.is)) (c.close.ensures.exact x h)

pub returns-in-Some-clause-acted : goal.returns-in-Some-clause-acted
returns-in-Some-clause-acted g c =
    let w = c.args.self.now in let t = c.in-Some.due in
    into_acted w c.close.new.self w.sequencer c.close.result c.args.out.now c.close.new.out (due_acts w) t (tries_due w t (sym c.closing.ensures.closing ∙ c.in-Some.is)) c.close.ensures.acted

pub returns-in-Some-clause-held : goal.returns-in-Some-clause-held
returns-in-Some-clause-held g c = λ x h.
    let w = c.args.self.now in let t = c.in-Some.due in
    into_held w c.close.new.self w.sequencer c.close.result c.args.out.now c.close.new.out (due_acts w) t x (g.G.Register.holds c.close.new.reg) (tries_due w t (sym c.closing.ensures.closing ∙ c.in-Some.is)) (c.close.ensures.held x h)

pub returns-in-Some-clause-done_or_not : goal.returns-in-Some-clause-done_or_not
returns-in-Some-clause-done_or_not g c = λ b.
    let w = c.args.self.now in let t = c.in-Some.due in
    into_changed w w.sequencer (due_acts w) t (g.G.Register.may_hold c.args.reg.now) (g.G.Register.may_hold c.close.new.reg) (tries_due w t (sym c.closing.ensures.closing ∙ c.in-Some.is)) (c.close.ensures.done_or_not b)

pub returns-in-None-clause-exact : goal.returns-in-None-clause-exact
returns-in-None-clause-exact g c = λ x h.
    let w = c.args.self.now in let t = c.nothing.ensures in
    none_exact w c.nothing.result c.args.out.now (sym c.closing.ensures.closing ∙ c.in-None.is) t.acked t.closed t.preempted t.failed t.released x (g.G.Register.tells c.args.reg.now) h

pub returns-in-None-clause-acted : goal.returns-in-None-clause-acted
returns-in-None-clause-acted g c =
    let w = c.args.self.now in let t = c.nothing.ensures in (
      w.origin.first,
      first_of w c.self.inside.own c.self.inside.recovery c.self.view_is c.self.invariant,
      Granted,
      none_acted w c.nothing.result c.args.out.now (sym c.closing.ensures.closing ∙ c.in-None.is) t.acked t.closed t.preempted t.failed t.released w.origin.first Granted,
    )
