use Rattle.std.proofs.Common.{◌≡◌, ◌+◌, length}
use Rattle.ld_op.specs.Places.{filled}
use Rattle.ld_op.proofs.sizes.count_summaries.Given as goal

abbrev pub invariant-summaries : goal.invariant-summaries
invariant-summaries l = l.count + length (filled l.place-iterator) ≡ length (filled l.places.entries)
