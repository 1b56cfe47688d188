use Rattle.std.proofs.Common.{◌≡◌, drop}
use Rattle.ld_real.specs.Places.{address_of}
use Rattle.ld_real.proofs.places.address_of.Given as goal

abbrev pub invariant-loop-of : goal.invariant-loop-of
invariant-loop-of l = address_of (drop l.of-index l.addresses) l.node ≡ address_of l.addresses l.node
