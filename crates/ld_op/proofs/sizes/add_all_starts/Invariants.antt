use Rattle.std.proofs.Common.{◌≡◌, ◌++◌}
use Rattle.ld_op.proofs.Tables.{all_starts_of}
use Rattle.ld_op.proofs.sizes.add_all_starts.Given as goal

abbrev pub invariant-logs : goal.invariant-logs
invariant-logs l = l.out.items ++ all_starts_of l.log-iterator ≡ l.fn.out.items ++ all_starts_of l.places.entries
