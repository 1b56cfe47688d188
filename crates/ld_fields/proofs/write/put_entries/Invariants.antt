use Rattle.std.proofs.Common.{◌≡◌, ◌++◌, take}
use Rattle.ld_fields.specs.Items.{entries_bytes}
use Rattle.ld_fields.proofs.write.put_entries.Given as goal

abbrev pub invariant-loop-entry : goal.invariant-loop-entry
invariant-loop-entry l = l.out.items ≡ l.fn.out.items ++ entries_bytes (take l.entry-index l.entries)
