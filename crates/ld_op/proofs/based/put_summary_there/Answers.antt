use Rattle.ld_op.proofs.Tables.{written, nothing_written, summary_one, summary_none}
use Rattle.ld_op.proofs.based.put_summary_there.Goals as goal

pub returns-in-Some : goal.returns-in-Some
returns-in-Some c = written c.put_one_summary.result c.put_one_summary.new.out.items c.args.out.now.items _ _ (summary_one c.args.epoch c.args.place.now c.in-Some.summary c.in-Some.is) c.put_one_summary.ensures

pub returns-in-None : goal.returns-in-None
returns-in-None c = nothing_written c.args.out.now.items _ (summary_none c.args.epoch c.args.place.now c.in-None.is)
