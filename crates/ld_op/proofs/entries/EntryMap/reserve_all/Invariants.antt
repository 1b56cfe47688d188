use Rattle.std.proofs.Common.{◌≡◌, true, take}
use Rattle.ld_op.specs.Places.{filled}
use Rattle.ld_op.specs.Room.{have_places}
use Rattle.ld_op.proofs.entries.EntryMap.reserve_all.Given as goal

abbrev pub invariant-loop-entry : goal.invariant-loop-entry
invariant-loop-entry l = (filled l.self ≡ filled l.fn.self) × (have_places (take l.entry-index l.entries) l.self ≡ true)
