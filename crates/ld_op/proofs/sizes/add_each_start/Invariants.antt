use Rattle.std.proofs.Common.{◌≡◌, ◌++◌}
use Rattle.ld_op.proofs.Tables.{starts_of}
use Rattle.ld_op.proofs.sizes.add_each_start.Given as goal

abbrev pub invariant-entries : goal.invariant-entries
invariant-entries l = l.out.items ++ starts_of l.number-iterator ≡ l.fn.out.items ++ starts_of l.places.entries
