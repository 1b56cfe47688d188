use Rattle.std.proofs.Common.{◌≡◌, ◌⊎◌, ◌∙◌, set, sym, subst, inl, inr, true}
use Rattle.ld_rounds.specs.Listening.{due_with}
use Rattle.ld_rounds.specs.Drives.{IsBroken, GoesOn, Answering}
use Rattle.ld_rounds.specs.Rounds.{Visiting, VisitEnd}
use Rattle.ld_rounds.proofs.News.{first_waits}
use Rattle.ld_rounds.proofs.Visiting.{handed_on, handed_quietly, unsent}
use Rattle.ld_rounds.proofs.visits.send_one.Goals as goal

pub returns-in-Err-clause-held : goal.returns-in-Err-clause-held
returns-in-Err-clause-held g c who k first s far qs rest due w b told h q =
    let a = c.args.actor.now in
    let y = c.args.node in
    let T = g.N.Nodes.tells c.send.new.self in
    let to = first_waits first s.network qs far.answers y c.args.message.now rest h.news c.number.ensures.bounds q in
    subst (λ r. (g.N.Nodes.silent c.send.new.self ≡ true) ⊎ GoesOn who (IsBroken (g.N.Nodes.faults c.args.nodes.now) (g.N.Nodes.faults c.send.new.self) (g.N.Nodes.endings c.args.nodes.now) (g.N.Nodes.endings c.send.new.self)) (Visiting k first y) (VisitEnd k first y) (g.A.Actor.stands a) (Answering T k y (due_with due r)) k first s (set qs y rest) w w r) (sym c.unsent.ensures.value)
    (unsent who (IsBroken (g.N.Nodes.faults c.args.nodes.now) (g.N.Nodes.faults c.send.new.self) (g.N.Nodes.endings c.args.nodes.now) (g.N.Nodes.endings c.send.new.self)) k first b (g.A.Actor.stands a) (g.met.A.Actor.stands_apart a) s T far y due told.1 told.2 c.number.ensures.bounds w (g.N.Nodes.silent c.send.new.self) c.args.message.now rest qs c.in-Err.fault (g.N.Nodes.faults c.args.nodes.now) (g.N.Nodes.faults c.send.new.self) c.in-Err.ensures.counts (λ r. inl r) h q
    (c.in-Err.ensures.sent k far told.0 y told.1 to))

pub returns-then-is_answered-clause-held : goal.returns-then-is_answered-clause-held
returns-then-is_answered-clause-held g c who k first s far qs rest due w b told h q =
    let a = c.args.actor.now in
    let to = first_waits first s.network qs far.answers c.args.node c.args.message.now rest h.news c.number.ensures.bounds q in
    inr (handed_on who (IsBroken (g.N.Nodes.faults c.args.nodes.now) (g.N.Nodes.faults c.send.new.self) (g.N.Nodes.endings c.args.nodes.now) (g.N.Nodes.endings c.send.new.self)) k first b (g.A.Actor.stands a) (g.met.A.Actor.stands_apart a) s (g.N.Nodes.tells c.send.new.self) far c.args.node due told.1 told.2 c.number.ensures.bounds w qs c.args.message.now rest h q (c.in-Ok.ensures.sent k far told.0 c.args.node told.1 to))

pub returns-clause-held : goal.returns-clause-held
returns-clause-held g c who k first s far qs rest due w b told h q =
    let a = c.args.actor.now in
    let to = first_waits first s.network qs far.answers c.args.node c.args.message.now rest h.news c.number.ensures.bounds q in
    inr (handed_quietly who (IsBroken (g.N.Nodes.faults c.args.nodes.now) (g.N.Nodes.faults c.send.new.self) (g.N.Nodes.endings c.args.nodes.now) (g.N.Nodes.endings c.send.new.self)) k first b (g.A.Actor.stands a) (g.met.A.Actor.stands_apart a) s (g.N.Nodes.tells c.send.new.self) far c.args.node due told.1 told.2 c.number.ensures.bounds w qs c.args.message.now rest h q (sym c.is_answered.ensures ∙ c.if-is_answered.false) (c.in-Ok.ensures.sent k far told.0 c.args.node told.1 to))
