use Rattle.std.proofs.Common.{subst, sym}
use Rattle.ld_op.specs.Places.{AreUnderTheirNumbers}
use Rattle.ld_op.proofs.Places.{none_under}
use Rattle.ld_op.proofs.entries.EntryMap.new.Goals as goal

pub invariant_of-result : goal.invariant_of-result
invariant_of-result c = subst AreUnderTheirNumbers (sym c.new.ensures.empty) none_under
