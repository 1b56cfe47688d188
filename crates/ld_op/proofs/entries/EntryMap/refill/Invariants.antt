use Rattle.std.proofs.Common.{◌≡◌, ◌+◌, true, take}
use Rattle.ld_op.specs.Places.{filled}
use Rattle.ld_op.specs.Plain.{refill_entries, entries_length}
use Rattle.ld_op.specs.Cells.{placed_entries}
use Rattle.ld_op.specs.Room.{have_places}
use Rattle.ld_op.proofs.entries.EntryMap.refill.Given as goal

abbrev pub invariant-loop-entry : goal.invariant-loop-entry
invariant-loop-entry l = record {
  places : have_places l.entries l.self ≡ true;
  value : filled l.self ≡ refill_entries (placed_entries l.fn.at (take l.entry-index l.entries)) (filled l.fn.self);
  at : l.at ≡ l.fn.at + entries_length (take l.entry-index l.entries);
}
