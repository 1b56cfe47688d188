use Rattle.ld_op.proofs.Tables.{written, nothing_written, entry_one, entry_none}
use Rattle.ld_op.proofs.based.put_entry_there.Goals as goal

pub returns-in-Some : goal.returns-in-Some
returns-in-Some c = written c.put_one_entry.result c.put_one_entry.new.out.items c.args.out.now.items _ _ (entry_one c.args.number c.args.place.now c.in-Some.entry c.in-Some.is) c.put_one_entry.ensures

pub returns-in-None : goal.returns-in-None
returns-in-None c = nothing_written c.args.out.now.items _ (entry_none c.args.number c.args.place.now c.in-None.is)
