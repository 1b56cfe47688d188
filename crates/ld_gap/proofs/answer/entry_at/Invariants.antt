use Rattle.std.proofs.Common.{◌≡◌, drop}
use Rattle.ld_msg.specs.Reading.{entry_at}
use Rattle.ld_gap.proofs.answer.entry_at.Given as goal

abbrev pub invariant-loop-entry : goal.invariant-loop-entry
invariant-loop-entry l = entry_at l.number (drop l.entry-index l.entry-items) ≡ entry_at l.number l.entries
