use Rattle.std.proofs.Common.{◌≤◌, length}
use Rattle.ld_op.specs.Places.{filled}
use Rattle.ld_op.specs.Indexed.{read_rising, read_based_summary}
use Rattle.ld_op.proofs.Rising.{Reading}
use Rattle.ld_op.proofs.index_read.read_so_many_summaries.Given as goal

abbrev pub invariant-summaries : goal.invariant-summaries
invariant-summaries l = record {
  place : l.next ≤ length l.bytes;
  most : l.counter ≤ l.count;
  reading : Reading (read_based_summary l.bytes l.older) l.count l.counter l.least l.next (filled l.summaries) (read_rising (read_based_summary l.bytes l.older) l.count 0 l.fn.at);
}
