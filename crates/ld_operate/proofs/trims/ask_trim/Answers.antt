use Rattle.ld_operate.proofs.Trimmed.{hears_down, hears_none, hears_some}
use Rattle.ld_operate.proofs.trims.ask_trim.Goals as goal

pub returns-in-Err-clause-heard : goal.returns-in-Err-clause-heard
returns-in-Err-clause-heard g c = hears_down (g.N.Nodes.tells c.args.nodes.now) (g.N.Nodes.tells c.dial.new.self) (g.N.Nodes.silent c.dial.new.self) c.args.log c.args.node (λ k far told. c.in-Err.ensures.dialed k far told)

pub returns-in-Some-clause-heard : goal.returns-in-Some-clause-heard
returns-in-Some-clause-heard g c =
    hears_some (g.N.Nodes.tells c.args.nodes.now) (g.N.Nodes.tells c.dial.new.self) (g.N.Nodes.tells c.ask.new.nodes) (g.N.Nodes.silent c.ask.new.nodes) c.args.log c.args.node c.new.result c.trim_told.result
    c.in_ok-answer.field-0 c.in-Some.answer (λ k far told. c.in-Ok.ensures.dialed k far told) c.new.ensures c.in-Some.is c.trim_told.ensures c.in_ok-answer.ensures.told

pub returns-in-None-clause-heard : goal.returns-in-None-clause-heard
returns-in-None-clause-heard g c =
    hears_none (g.N.Nodes.tells c.args.nodes.now) (g.N.Nodes.tells c.dial.new.self) (g.N.Nodes.tells c.ask.new.nodes) (g.N.Nodes.silent c.ask.new.nodes) c.args.log c.args.node c.new.result
    c.in_ok-answer.field-0 (λ k far told. c.in-Ok.ensures.dialed k far told) c.in-None.is c.in_ok-answer.ensures.told
