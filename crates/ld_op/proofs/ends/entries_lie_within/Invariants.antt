use Rattle.std.proofs.Common.{◌≡◌}
use Rattle.ld_op.specs.Places.{filled}
use Rattle.ld_op.specs.Within.{entries_within}
use Rattle.ld_op.proofs.ends.entries_lie_within.Given as goal

abbrev pub invariant-entries : goal.invariant-entries
invariant-entries l = entries_within l.end (filled l.place-iterator) ≡ entries_within l.end (filled l.places.entries)
