use Rattle.ld_op.proofs.Tables.{start_is}
use Rattle.ld_op.proofs.sizes.add_start.Goals as goal

pub returns-in-Rec : goal.returns-in-Rec
returns-in-Rec c = start_is c.add_place.result c.args.out.now.items c.add_place.new.out.items c.args.held c.in-Rec.place c.add_place.ensures c.in-Rec.is
