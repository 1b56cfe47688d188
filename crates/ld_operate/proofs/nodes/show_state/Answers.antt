use Rattle.std.proofs.Common.{◌≡◌, ◌∙◌, ◌++◌, List, ℕ, ap}
use Rattle.ld_operate.specs.Asked.{state_line, past_epoch}
use Rattle.ld_operate.proofs.Groups.{first_unheard, state_heard, line_written}
use Rattle.ld_operate.proofs.nodes.show_state.Goals as goal

pub returns-in-None-clause-heard : goal.returns-in-None-clause-heard
returns-in-None-clause-heard g c =
    first_unheard (g.N.Nodes.tells c.args.nodes.now) (g.N.Nodes.tells c.ask.new.nodes) (g.N.Nodes.silent c.ask.new.nodes) c.args.log c.args.node c.new.result (g.O.Sink.written c.args.out.now)
    c.in_ok-answer.field-0 c.in-None.is c.in_ok-answer.ensures.told

pub returns-clause-heard : goal.returns-clause-heard
returns-clause-heard g c =
    let from : c.new.result ≡ past_epoch c.args.epoch = c.new.ensures in
    let line : c.deref.result.now ≡ state_line c.args.json c.args.node c.args.epoch c.in-Some.answer =
    c.deref.ensures.value ∙ c.in_ok-state_line.ensures ∙ ap (λ (l : List ℕ). l ++ state_line c.args.json c.args.node c.args.epoch c.in-Some.answer) c.new-line.ensures.items in
    state_heard (g.N.Nodes.tells c.args.nodes.now) (g.N.Nodes.tells c.ask.new.nodes) (g.N.Nodes.silent c.ask.new.nodes) c.args.log c.args.node c.args.epoch c.new.result
    (g.O.Sink.written c.args.out.now) (g.O.Sink.written c.write.new.out) c.in_ok-answer.field-0 c.in-Some.answer from c.in-Some.is c.in_ok-answer.ensures.told
    (line_written (g.O.Sink.written c.write.new.out) (g.O.Sink.written c.args.out.now) c.deref.result.now (state_line c.args.json c.args.node c.args.epoch c.in-Some.answer) c.in_ok-write.ensures.written line)
