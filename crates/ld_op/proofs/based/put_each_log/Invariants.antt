use Rattle.std.proofs.Common.{◌≡◌, ◌++◌}
use Rattle.ld_op.proofs.Tables.{logs_of}
use Rattle.ld_op.proofs.based.put_each_log.Given as goal

abbrev pub invariant-logs : goal.invariant-logs
invariant-logs l = l.out.items ++ logs_of l.log-iterator ≡ l.fn.out.items ++ logs_of l.places.entries
