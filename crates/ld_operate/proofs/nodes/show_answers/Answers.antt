use Rattle.std.proofs.Common.{Bool}
use Rattle.ld_operate.proofs.Groups.{answers_down, answers_none, answers_heard, if_ok_on}
use Rattle.ld_operate.proofs.nodes.show_answers.Goals as goal

pub returns-in-Err-clause-heard : goal.returns-in-Err-clause-heard
returns-in-Err-clause-heard g c = answers_down c.args.json (λ k far told. c.in-Err.ensures.dialed k far told)

pub returns-in-None-clause-heard : goal.returns-in-None-clause-heard
returns-in-None-clause-heard g c =
    answers_none c.args.json (g.N.Nodes.tells c.args.nodes.now) (g.N.Nodes.tells c.dial.new.self) (g.N.Nodes.tells c.show_points.new.nodes) (g.N.Nodes.silent c.show_points.new.nodes) c.args.log c.args.node _ _
    (g.O.Sink.written c.args.out.now) (g.O.Sink.written c.show_points.new.out) (λ k far told. c.in-Ok.ensures.dialed k far told) (rw c.in-None.is at c.in_ok-trim.ensures.heard)

pub returns-clause-heard : goal.returns-clause-heard
returns-clause-heard g c = if_ok_on c.show_states.result (λ (whole : Bool) h.
    answers_heard (g.N.Nodes.tells c.args.nodes.now) (g.N.Nodes.tells c.dial.new.self) (g.N.Nodes.tells c.show_points.new.nodes) (g.N.Nodes.tells c.show_states.new.nodes)
    (g.N.Nodes.silent c.show_points.new.nodes) (g.N.Nodes.silent c.show_states.new.nodes) c.args.log c.args.node _ _ c.in-Some.trim
    (g.O.Sink.written c.args.out.now) (g.O.Sink.written c.show_points.new.out) (g.O.Sink.written c.show_states.new.out) whole
    (λ k far told. c.in-Ok.ensures.dialed k far told) c.show_states.ensures.quiet (rw c.in-Some.is at c.in_ok-trim.ensures.heard) h) c.show_states.ensures.heard
