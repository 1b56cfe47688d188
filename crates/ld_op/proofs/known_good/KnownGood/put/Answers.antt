use Rattle.std.proofs.Common.{Some}
use Rattle.ld_table.specs.Table.{find}
use Rattle.ld_op.proofs.Places.{put_at_place, filled-put_by}
use Rattle.ld_op.proofs.known_good.KnownGood.put.Goals as goal

pub returns : goal.returns
unfolding find
returns c = filled-put_by c.args.epoch c.args.place c.self.inside.map.entries c.insert.new.self.entries c.args.self.now c.insert.ensures.was_ordered c.self.view_is
    (put_at_place c.insert.result c.args.epoch (Some c.args.place) c.self.inside.map.entries c.insert.new.self.entries c.args.self.now c.insert.ensures.entries c.insert.ensures.absent c.self.view_is c.requires)
