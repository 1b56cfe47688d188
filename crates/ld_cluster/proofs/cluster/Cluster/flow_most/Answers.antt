use Rattle.ld_register.proofs.Committing.{on_err}
use Rattle.ld_cluster.proofs.Flowing.{flow_taken, flow_cut, flow_without_none}
use Rattle.ld_cluster.proofs.cluster.Cluster.flow_most.Goals as goal

pub returns-clause-whole : goal.returns-clause-whole
returns-clause-whole c = flow_taken c.args.self.now c.deliver_most.new.self c.args.lines.now c.deliver_most.new.lines c.add_none.new.lines c.args.most c.len-before.result c.len-before.ensures c.in_ok-deliver_most.ensures.whole c.in_ok-add_none.ensures.all

pub returns-in_err-deliver_most-clause-part : goal.returns-in_err-deliver_most-clause-part
returns-in_err-deliver_most-clause-part c = on_err c.from_residual.result _ (flow_cut c.args.self.now c.deliver_most.new.self c.args.lines.now c.deliver_most.new.lines c.args.most c.in_err-deliver_most.ensures.part)

pub returns-in_err-add_none-clause-part : goal.returns-in_err-add_none-clause-part
returns-in_err-add_none-clause-part c = on_err c.from_residual-in_err-add_none.result _ (flow_without_none c.args.self.now c.deliver_most.new.self c.args.lines.now c.deliver_most.new.lines c.add_none.new.lines c.args.most c.in_ok-deliver_most.ensures.whole c.in_err-add_none.ensures.none)
