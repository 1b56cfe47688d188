use Rattle.ld_register.proofs.Committing.{on_err}
use Rattle.ld_cluster.proofs.Finishing.{finished, lines_cut, messages_cut, none_cut}
use Rattle.ld_cluster.proofs.cluster.Cluster.finish.Goals as goal

pub returns-clause-done : goal.returns-clause-done
returns-clause-done c = λ s p. finished c.args.self.now c.send_each.new.self c.args.lines.now c.add_all.new.lines c.send_each.new.lines c.add_none.new.lines c.len-before.result c.args.outcome s c.len-before.ensures c.in_ok-add_all.ensures.all (c.in_ok-send_each.ensures.done s p) c.in_ok-add_none.ensures.all

pub returns-in_err-add_all-clause-part : goal.returns-in_err-add_all-clause-part
returns-in_err-add_all-clause-part c = λ s p. on_err c.from_residual.result _ (lines_cut c.args.lines.now c.add_all.new.lines c.args.outcome s c.in_err-add_all.ensures.part)

pub returns-in_err-send_each-clause-part : goal.returns-in_err-send_each-clause-part
returns-in_err-send_each-clause-part c = λ s p. on_err c.from_residual-in_err-send_each.result _ (messages_cut c.args.lines.now c.add_all.new.lines c.send_each.new.lines c.args.outcome s c.in_ok-add_all.ensures.all (c.in_err-send_each.ensures.part s p))

pub returns-in_err-add_none-clause-part : goal.returns-in_err-add_none-clause-part
returns-in_err-add_none-clause-part c = λ s p. on_err c.from_residual-in_err-add_none.result _ (none_cut c.args.self.now c.send_each.new.self c.args.lines.now c.add_all.new.lines c.send_each.new.lines c.add_none.new.lines c.args.outcome s c.in_ok-add_all.ensures.all (c.in_ok-send_each.ensures.done s p) c.in_err-add_none.ensures.none)
