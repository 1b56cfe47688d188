use Rattle.std.proofs.Common.{◌≡◌, ◌++◌}
use Rattle.ld_layout.proofs.listed.Areas.copy.Given as goal

abbrev pub invariant-areas : goal.invariant-areas
invariant-areas l = l.areas ++ l.place-iterator ≡ l.self
