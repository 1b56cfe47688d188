use Rattle.std.specs.Map.Iter.{deref_pair}
use Rattle.ld_op.proofs.Tables.{logs_of, logs_more, logs_none, put_on, put_all}
use Rattle.ld_op.proofs.based.put_each_log.Goals as goal

pub logs-preserved : goal.logs-preserved
logs-preserved c = put_on logs_of (deref_pair (c.in-Some.log, c.in-Some.state)) c.logs.log-iterator c.next.new.self _ c.logs.out.items _ logs_more c.in-Some.ensures.steps c.in_ok-put_log_there.ensures c.logs.invariant

pub returns : goal.returns
returns c = put_all logs_of c.logs.log-iterator _ c.logs.out.items logs_none c.in-None.ensures.steps.0 c.logs.invariant
