use Rattle.std.proofs.Common.{◌≡◌}
use Rattle.ld_layout.proofs.Ends.{all_end}
use Rattle.ld_layout.proofs.listed.Areas.lie_within.Given as goal

abbrev pub invariant-areas : goal.invariant-areas
invariant-areas l = all_end l.end l.place-iterator ≡ all_end l.end l.self
