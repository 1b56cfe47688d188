use Rattle.std.proofs.Common.{◌≤◌, length}
use Rattle.ld_op.specs.Room.{there_of}
use Rattle.ld_op.specs.Indexed.{read_rising, read_based_log}
use Rattle.ld_op.proofs.Rising.{Reading}
use Rattle.ld_op.proofs.index_read.read_logs.Given as goal

abbrev pub invariant-logs : goal.invariant-logs
invariant-logs l = record {
  place : l.next ≤ length l.bytes;
  most : l.counter ≤ l.count;
  reading : Reading (read_based_log l.bytes l.older) l.count l.counter l.least l.next (there_of l.logs) (read_rising (read_based_log l.bytes l.older) l.count 0 l.fn.at);
}
