use Rattle.std.proofs.Common.{◌≡◌, ◌++◌}
use Rattle.ld_op.proofs.Tables.{lngs_of}
use Rattle.ld_op.proofs.based.put_each_lng.Given as goal

abbrev pub invariant-lngs : goal.invariant-lngs
invariant-lngs l = l.out.items ++ lngs_of l.epoch-iterator ≡ l.fn.out.items ++ lngs_of l.places.entries
