use Rattle.ld_op.proofs.Tables.{place_written}
use Rattle.ld_op.proofs.based.put_held.Goals as goal

pub returns-in_ok-put_u8-in-Rec : goal.returns-in_ok-put_u8-in-Rec
returns-in_ok-put_u8-in-Rec c = place_written c.put_place.result c.args.out.now.items c.put_u8.new.out.items c.put_place.new.out.items c.args.held c.in-Rec.place c.put_place.ensures c.in_ok-put_u8-in-Rec.ensures c.in-Rec.is
