use Rattle.std.proofs.Common.{ap, ◌∙◌}
use Rattle.ld_op.specs.Indexed.{start_of}
use Rattle.ld_op.proofs.Tables.{written, nothing_written, start_one, start_none}
use Rattle.ld_op.proofs.sizes.add_start_there.Goals as goal

pub returns-in-Some : goal.returns-in-Some
returns-in-Some c = written c.add_start.result c.add_start.new.out.items c.args.out.now.items _ _ (ap start_of c.held.ensures ∙ start_one c.args.number c.args.place.now c.in-Some.entry c.in-Some.is) c.add_start.ensures

pub returns-in-None : goal.returns-in-None
returns-in-None c = nothing_written c.args.out.now.items _ (start_none c.args.number c.args.place.now c.in-None.is)
