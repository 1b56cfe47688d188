use Rattle.std.proofs.Common.{◌∙◌, sym}
use Rattle.ld_op.proofs.Tables.{written, nothing_written, log_one, log_none}
use Rattle.ld_op.proofs.based.put_log_there.Goals as goal

pub returns-then-is_there : goal.returns-then-is_there
returns-then-is_there c = written c.put_one_log.result c.put_one_log.new.out.items c.args.out.now.items _ _ (log_one c.args.log c.args.state.now (sym c.is_there.ensures.value ∙ c.if-is_there.true)) c.put_one_log.ensures

pub returns-else-is_there : goal.returns-else-is_there
returns-else-is_there c = nothing_written c.args.out.now.items _ (log_none c.args.log c.args.state.now (sym c.is_there.ensures.value ∙ c.if-is_there.false))
