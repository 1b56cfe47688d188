use Rattle.std.proofs.Common.{◌∙◌, sym}
use Rattle.ld_op.proofs.Tables.{written, nothing_written, all_start_one, all_start_none}
use Rattle.ld_op.proofs.sizes.add_starts_there.Goals as goal

pub returns-then-is_there : goal.returns-then-is_there
returns-then-is_there c = written c.add_starts.result c.add_starts.new.out.items c.args.out.now.items _ _ (all_start_one c.args.log c.args.state.now (sym c.is_there.ensures.value ∙ c.if-is_there.true)) c.add_starts.ensures

pub returns-else-is_there : goal.returns-else-is_there
returns-else-is_there c = nothing_written c.args.out.now.items _ (all_start_none c.args.log c.args.state.now (sym c.is_there.ensures.value ∙ c.if-is_there.false))
