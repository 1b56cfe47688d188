use Rattle.std.proofs.Common.{◌≡◌, ◌≤◌, ◌-◌, length}
use Rattle.ld_op.specs.Bytes.{read_epochs}
use Rattle.ld_fields.specs.Resumed.{resumed}
use Rattle.ld_op.proofs.decode.read_epochs.Given as goal

abbrev pub invariant-epochs : goal.invariant-epochs
invariant-epochs l = record {
  place : l.next ≤ length l.bytes;
  most : l.counter ≤ l.count;
  least : 1 ≤ l.least;
  rest : resumed l.list.items (read_epochs l.bytes (l.count - l.counter) l.least l.next) ≡ read_epochs l.bytes l.count 1 l.fn.at;
}
