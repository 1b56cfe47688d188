use Rattle.std.proofs.Common.{◌≤◌, length}
use Rattle.ld_op.specs.Indexed.{read_rising}
use Rattle.ld_op.proofs.Rising.{Reading}
use Rattle.ld_layout.specs.Base.{read_area}
use Rattle.ld_layout.proofs.base.read_so_many_areas.Given as goal

abbrev pub invariant-areas : goal.invariant-areas
invariant-areas l = record {
  place : l.next ≤ length l.bytes;
  most : l.counter ≤ l.count;
  reading : Reading (read_area l.bytes) l.count l.counter l.least l.next l.areas (read_rising (read_area l.bytes) l.count 0 l.fn.at);
}
