use Rattle.std.proofs.Common.{inr}
use Rattle.ld_mend.proofs.Handing.{handed_on}
use Rattle.ld_mend.proofs.fetching.exchange.Goals as goal

pub returns-in-Ok-clause-told : goal.returns-in-Ok-clause-told
returns-in-Ok-clause-told g c k ns to from f =
    inr (handed_on k ns c.args.node c.args.id c.args.ask.now to from f.far f.nodes f.present f.none (g.N.Nodes.tells c.send.new.self k) (g.N.Nodes.tells c.take.new.nodes k)
    (c.in-Ok.ensures.sent k f.far f.told c.args.node f.present to) c.take.result (λ far t. c.take.ensures.taken k far t))
