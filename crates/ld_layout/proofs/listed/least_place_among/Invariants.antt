use Rattle.std.proofs.Common.{◌≡◌}
use Rattle.ld_layout.specs.Areas.{least_place}
use Rattle.ld_layout.proofs.listed.least_place_among.Given as goal

abbrev pub invariant-areas : goal.invariant-areas
invariant-areas l = least_place l.size l.at l.place-iterator ≡ least_place l.size 0 l.areas
