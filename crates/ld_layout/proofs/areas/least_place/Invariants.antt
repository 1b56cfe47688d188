use Rattle.std.proofs.Common.{◌≡◌, ◌≤◌, ◌^◌, drop}
use Rattle.ld_layout.specs.Areas.{least_place}
use Rattle.ld_layout.proofs.areas.least_place.Given as goal

abbrev pub invariant-areas : goal.invariant-areas
invariant-areas l = record {
  rest : least_place l.size l.at (drop l.place-index l.areas) ≡ least_place l.fn.size 0 l.fn.areas;
  bound : l.at ≤ 2 ^ 40;
}
