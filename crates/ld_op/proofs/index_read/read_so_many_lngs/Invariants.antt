use Rattle.std.proofs.Common.{◌≤◌, length}
use Rattle.ld_op.specs.Places.{filled}
use Rattle.ld_op.specs.Indexed.{read_rising, read_based_lng}
use Rattle.ld_op.proofs.Rising.{Reading}
use Rattle.ld_op.proofs.index_read.read_so_many_lngs.Given as goal

abbrev pub invariant-lngs : goal.invariant-lngs
invariant-lngs l = record {
  place : l.next ≤ length l.bytes;
  most : l.counter ≤ l.count;
  reading : Reading (read_based_lng l.bytes) l.count l.counter l.least l.next (filled l.lngs) (read_rising (read_based_lng l.bytes) l.count 0 l.fn.at);
}
