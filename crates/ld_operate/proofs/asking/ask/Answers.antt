use Rattle.std.proofs.Common.{refl}
use Rattle.ld_operate.proofs.Hearing.{sent_answered, not_gone}
use Rattle.ld_operate.proofs.asking.ask.Goals as goal

pub returns-in-Ok-clause-told : goal.returns-in-Ok-clause-told
returns-in-Ok-clause-told g c k all f up has =
    sent_answered all c.args.node c.args.log c.args.from k f.far f.same f.present f.none up has (g.N.Nodes.tells c.send.new.nodes k) (g.N.Nodes.tells c.take.new.nodes k)
    (g.N.Nodes.silent c.take.new.nodes) c.take.result (c.in-Ok.ensures.sent k f.far f.told c.args.node f.present refl) (λ far t. c.take.ensures.taken k far t)

pub returns-in-Err-Link-clause-told : goal.returns-in-Err-Link-clause-told
returns-in-Err-Link-clause-told g c k all f up has =
    not_gone all c.args.node f.far (g.N.Nodes.tells c.send.new.nodes k) (g.N.Nodes.silent c.send.new.nodes) f.same f.present up
    (rw c.in-Err-Link.field-0-is at (c.in-Err-Link.ensures.sent k f.far f.told c.args.node f.present refl))
