use Rattle.std.proofs.Common.{◌≡◌, ◌≤◌, ◌-◌, length}
use Rattle.ld_fields.specs.Items.{read_entries}
use Rattle.ld_fields.specs.Resumed.{resumed}
use Rattle.ld_fields.proofs.list.read_entries.Given as goal

abbrev pub invariant-entries : goal.invariant-entries
invariant-entries l = record {
  place : l.next ≤ length l.bytes;
  most : l.counter ≤ l.count;
  rest : resumed l.entries (read_entries l.bytes l.beside l.upto (l.count - l.counter) l.least l.next) ≡ read_entries l.bytes l.beside l.upto l.count l.fn.from l.fn.at;
}
