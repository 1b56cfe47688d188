use Rattle.ld_op.proofs.Places.{filled-take_out_by}
use Rattle.ld_op.proofs.known_good.KnownGood.forget.Goals as goal

pub returns : goal.returns
returns c = filled-take_out_by c.args.epoch c.self.inside.map.entries c.remove.new.self.entries c.args.self.now c.len.ensures.ordered c.remove.ensures.ordered c.self.view_is c.remove.ensures.entries
