use Rattle.std.proofs.Common.{◌≡◌, ◌≤◌, ◌+◌, ◌-◌, ◌^◌, length, min}
use Rattle.ld_op.proofs.Tables.{entries_of}
use Rattle.ld_op.proofs.sizes.entries_length.Given as goal

abbrev pub invariant-entries : goal.invariant-entries
invariant-entries l = record {
  sum : min (l.sum + length (entries_of l.place-iterator)) (2 ^ 64 - 1) ≡ min (length (entries_of l.places.entries)) (2 ^ 64 - 1);
  most : l.sum ≤ 2 ^ 64 - 1;
}
