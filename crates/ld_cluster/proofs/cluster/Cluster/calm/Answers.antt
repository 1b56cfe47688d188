use Rattle.ld_register.proofs.Committing.{on_err}
use Rattle.ld_cluster.proofs.Calming.{calm_taken, calm_cut, calm_without_none}
use Rattle.ld_cluster.proofs.Serving.{calm_served}
use Rattle.ld_cluster.proofs.cluster.Cluster.calm.Goals as goal

pub returns-clause-whole : goal.returns-clause-whole
returns-clause-whole c = calm_taken c.args.self.now c.calm_down.new.self c.args.lines.now c.calm_down.new.lines c.add_none.new.lines c.len-before.result c.len-before.ensures c.in_ok-calm_down.ensures.whole c.in_ok-add_none.ensures.all

pub returns-clause-served : goal.returns-clause-served
returns-clause-served c = calm_served c.args.self.now c.requires.reached c.calm_down.new.self c.args.lines.now c.calm_down.new.lines c.in_ok-calm_down.ensures.whole

pub returns-in_err-calm_down-clause-part : goal.returns-in_err-calm_down-clause-part
returns-in_err-calm_down-clause-part c = on_err c.from_residual.result _ (calm_cut c.args.self.now c.calm_down.new.self c.args.lines.now c.calm_down.new.lines c.in_err-calm_down.ensures.part)

pub returns-in_err-add_none-clause-part : goal.returns-in_err-add_none-clause-part
returns-in_err-add_none-clause-part c = on_err c.from_residual-in_err-add_none.result _ (calm_without_none c.args.self.now c.calm_down.new.self c.args.lines.now c.calm_down.new.lines c.add_none.new.lines c.in_ok-calm_down.ensures.whole c.in_err-add_none.ensures.none)
