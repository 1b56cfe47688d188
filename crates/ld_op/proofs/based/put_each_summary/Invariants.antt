use Rattle.std.proofs.Common.{◌≡◌, ◌++◌}
use Rattle.ld_op.proofs.Tables.{summaries_of}
use Rattle.ld_op.proofs.based.put_each_summary.Given as goal

abbrev pub invariant-summaries : goal.invariant-summaries
invariant-summaries l = l.out.items ++ summaries_of l.epoch-iterator ≡ l.fn.out.items ++ summaries_of l.places.entries
