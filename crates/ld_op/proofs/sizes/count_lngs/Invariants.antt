use Rattle.std.proofs.Common.{◌≡◌, ◌+◌, length}
use Rattle.ld_op.specs.Places.{filled}
use Rattle.ld_op.proofs.sizes.count_lngs.Given as goal

abbrev pub invariant-lngs : goal.invariant-lngs
invariant-lngs l = l.count + length (filled l.place-iterator) ≡ length (filled l.places.entries)
