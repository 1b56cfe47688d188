use Rattle.std.proofs.Common.{◌≡◌, ◌++◌}
use Rattle.ld_layout.specs.Base.{areas_based}
use Rattle.ld_layout.proofs.base.put_each_area.Given as goal

abbrev pub invariant-areas : goal.invariant-areas
invariant-areas l = l.out.items ++ areas_based l.place-iterator ≡ l.fn.out.items ++ areas_based l.areas.entries
