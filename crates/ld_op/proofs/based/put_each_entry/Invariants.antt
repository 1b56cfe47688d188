use Rattle.std.proofs.Common.{◌≡◌, ◌++◌}
use Rattle.ld_op.proofs.Tables.{entries_of}
use Rattle.ld_op.proofs.based.put_each_entry.Given as goal

abbrev pub invariant-entries : goal.invariant-entries
invariant-entries l = l.out.items ++ entries_of l.number-iterator ≡ l.fn.out.items ++ entries_of l.places.entries
