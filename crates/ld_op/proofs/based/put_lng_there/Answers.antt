use Rattle.ld_op.proofs.Tables.{written, nothing_written, lng_one, lng_none}
use Rattle.ld_op.proofs.based.put_lng_there.Goals as goal

pub returns-in-Some : goal.returns-in-Some
returns-in-Some c = written c.put_one_lng.result c.put_one_lng.new.out.items c.args.out.now.items _ _ (lng_one c.args.epoch c.args.place.now c.in-Some.lng c.in-Some.is) c.put_one_lng.ensures

pub returns-in-None : goal.returns-in-None
returns-in-None c = nothing_written c.args.out.now.items _ (lng_none c.args.epoch c.args.place.now c.in-None.is)
