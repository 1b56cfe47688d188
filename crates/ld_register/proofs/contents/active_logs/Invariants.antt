use Rattle.std.proofs.Common.{◌≡◌, ◌++◌, map}
use Rattle.std.specs.Map.Iter.{deref_pair}
use Rattle.ld_msg.specs.Register.{epochs_in}
use Rattle.ld_register.proofs.contents.active_logs.Given as goal

abbrev pub invariant-logs : goal.invariant-logs
invariant-logs l = record {
  all : map deref_pair l.yielded ++ l.number-iterator ≡ l.initial.number-iterator;
  active : l.active.items ≡ epochs_in (map deref_pair l.yielded);
}
