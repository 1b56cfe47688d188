use Rattle.std.proofs.Common.{◌≡◌, ◌≤◌, ◌+◌, ◌-◌, ◌^◌, length, min}
use Rattle.ld_op.proofs.Tables.{logs_of}
use Rattle.ld_op.proofs.sizes.logs_length.Given as goal

abbrev pub invariant-logs : goal.invariant-logs
invariant-logs l = record {
  sum : min (l.sum + length (logs_of l.state-iterator)) (2 ^ 64 - 1) ≡ min (length (logs_of l.places.entries)) (2 ^ 64 - 1);
  most : l.sum ≤ 2 ^ 64 - 1;
}
