use Rattle.ld_op.proofs.There.{log_added}
use Rattle.ld_op.proofs.logs.LogMap.add.Goals as goal

pub returns : goal.returns
returns c = log_added c.number.result c.args.log c.args.state c.self.inside.map.entries c.insert.new.self.entries c.args.self.now c.in_ok-insert.ensures.entries c.number.ensures.value c.self.view_is c.insert.ensures.was_ordered c.requires
