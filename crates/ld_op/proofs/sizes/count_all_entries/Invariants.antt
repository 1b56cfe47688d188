use Rattle.std.proofs.Common.{◌≡◌, ◌≤◌, ◌+◌, ◌-◌, ◌^◌, min}
use Rattle.ld_op.specs.Room.{there_of}
use Rattle.ld_op.specs.Indexed.{entry_count}
use Rattle.ld_op.proofs.sizes.count_all_entries.Given as goal

abbrev pub invariant-logs : goal.invariant-logs
invariant-logs l = record {
  sum : min (l.sum + entry_count (there_of l.state-iterator)) (2 ^ 64 - 1) ≡ min (entry_count (there_of l.places.entries)) (2 ^ 64 - 1);
  most : l.sum ≤ 2 ^ 64 - 1;
}
