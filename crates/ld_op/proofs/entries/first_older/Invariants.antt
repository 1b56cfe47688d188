use Rattle.std.proofs.Common.{◌≡◌, ◌++◌, map, None}
use Rattle.std.specs.Map.Iter.{deref_pair}
use Rattle.ld_op.specs.Older.{first_older}
use Rattle.ld_op.proofs.entries.first_older.Given as goal

abbrev pub invariant-places : goal.invariant-places
invariant-places l = record {
  all : map deref_pair l.yielded ++ l.number-iterator ≡ l.initial.number-iterator;
  none : first_older l.ballot (map deref_pair l.yielded) ≡ None;
}
