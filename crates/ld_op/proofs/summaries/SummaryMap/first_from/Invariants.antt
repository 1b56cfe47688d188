use Rattle.std.proofs.Common.{◌≡◌, ◌++◌, map, []}
use Rattle.std.specs.Map.Iter.{deref_pair}
use Rattle.ld_op.specs.Places.{filled}
use Rattle.ld_op.proofs.summaries.SummaryMap.first_from.Given as goal

abbrev pub invariant-places : goal.invariant-places
invariant-places l = record {
  all : map deref_pair l.yielded ++ l.clean-iterator ≡ l.initial.clean-iterator;
  none : filled (map deref_pair l.yielded) ≡ [];
}
