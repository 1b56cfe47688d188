use Rattle.std.proofs.Common.{◌≡◌, ◌+◌, length}
use Rattle.ld_op.specs.Places.{filled}
use Rattle.ld_op.proofs.sizes.count_entries.Given as goal

abbrev pub invariant-entries : goal.invariant-entries
invariant-entries l = l.count + length (filled l.place-iterator) ≡ length (filled l.places.entries)
