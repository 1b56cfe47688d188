use Rattle.std.proofs.Common.{◌≡◌, ◌++◌, map}
use Rattle.std.specs.Map.Iter.{deref_pair}
use Rattle.ld_register.proofs.Tables.{others}
use Rattle.ld_register.proofs.contents.count_others.Given as goal

abbrev pub invariant-logs : goal.invariant-logs
invariant-logs l = record {
  all : map deref_pair l.yielded ++ l.number-iterator ≡ l.initial.number-iterator;
  count : l.count ≡ others l.fn.log (map deref_pair l.yielded);
}
