use Rattle.std.proofs.Common.{◌≡◌, ◌∙◌, ◌++◌, List, ℕ, ap}
use Rattle.ld_operate.specs.Asked.{points_line, first_number, past_all}
use Rattle.ld_operate.proofs.Groups.{first_unheard, second_unheard, points_heard, line_written}
use Rattle.ld_operate.proofs.nodes.show_points.Goals as goal

pub returns-in-None-clause-heard : goal.returns-in-None-clause-heard
returns-in-None-clause-heard g c =
    first_unheard (g.N.Nodes.tells c.args.nodes.now) (g.N.Nodes.tells c.ask.new.nodes) (g.N.Nodes.silent c.ask.new.nodes) c.args.log c.args.node c.new.result (g.O.Sink.written c.args.out.now)
    c.in_ok-first.field-0 c.in-None.is c.in_ok-first.ensures.told

pub returns-in-None-2-clause-heard : goal.returns-in-None-2-clause-heard
returns-in-None-2-clause-heard g c =
    second_unheard (g.N.Nodes.tells c.args.nodes.now) (g.N.Nodes.tells c.ask.new.nodes) (g.N.Nodes.tells c.ask-2.new.nodes) (g.N.Nodes.silent c.ask.new.nodes) (g.N.Nodes.silent c.ask-2.new.nodes)
    c.args.log c.args.node c.new.result c.new-2.result (g.O.Sink.written c.args.out.now) c.in_ok-first.field-0 c.in-Some.first c.in_ok-second.field-0 c.in_ok-second.ensures.quiet c.in-Some.is c.in-None-2.is
    c.in_ok-first.ensures.told c.in_ok-second.ensures.told

pub returns-clause-heard : goal.returns-clause-heard
returns-clause-heard g c =
    let from : c.new.result ≡ first_number = c.new.ensures in
    let next : c.new-2.result ≡ past_all = c.new-2.ensures in
    let line : c.deref.result.now ≡ points_line c.args.json c.args.node c.in-Some.first c.in-Some-2.second =
    c.deref.ensures.value ∙ c.in_ok-points_line.ensures ∙ ap (λ (l : List ℕ). l ++ points_line c.args.json c.args.node c.in-Some.first c.in-Some-2.second) c.new-line.ensures.items in
    points_heard (g.N.Nodes.tells c.args.nodes.now) (g.N.Nodes.tells c.ask.new.nodes) (g.N.Nodes.tells c.ask-2.new.nodes) (g.N.Nodes.silent c.ask.new.nodes) (g.N.Nodes.silent c.ask-2.new.nodes)
    c.args.log c.args.node c.new.result c.new-2.result (g.O.Sink.written c.args.out.now) (g.O.Sink.written c.write.new.out) c.trim_told.result c.in_ok-first.field-0 c.in-Some.first c.in_ok-second.field-0 c.in-Some-2.second
    c.in_ok-second.ensures.quiet from next c.in-Some.is c.in-Some-2.is c.in_ok-first.ensures.told c.in_ok-second.ensures.told c.trim_told.ensures
    (line_written (g.O.Sink.written c.write.new.out) (g.O.Sink.written c.args.out.now) c.deref.result.now (points_line c.args.json c.args.node c.in-Some.first c.in-Some-2.second) c.in_ok-write.ensures.written line)
