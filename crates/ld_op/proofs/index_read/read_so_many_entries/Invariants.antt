use Rattle.std.proofs.Common.{◌≤◌, length}
use Rattle.ld_op.specs.Places.{filled}
use Rattle.ld_op.specs.Indexed.{read_rising, read_based_entry}
use Rattle.ld_op.proofs.Rising.{Reading}
use Rattle.ld_op.proofs.index_read.read_so_many_entries.Given as goal

abbrev pub invariant-entries : goal.invariant-entries
invariant-entries l = record {
  place : l.next ≤ length l.bytes;
  most : l.counter ≤ l.count;
  reading : Reading (read_based_entry l.bytes) l.count l.counter l.least l.next (filled l.entries) (read_rising (read_based_entry l.bytes) l.count 0 l.fn.at);
}
