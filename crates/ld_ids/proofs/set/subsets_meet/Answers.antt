use Rattle.std.proofs.Common.{arith, subst}
use Rattle.ld_ids.specs.Set.{IsSet}
use Rattle.ld_ids.proofs.Members.{subsets_meet}
use Rattle.ld_ids.proofs.set.subsets_meet.Goals as goal

pub returns : goal.returns
returns c r few h g many more =
    subsets_meet _ _ _ (subst IsSet c.all.view_is c.all.invariant) (subst IsSet c.one.view_is c.one.invariant) (subst IsSet c.other.view_is c.other.invariant) h g (omega arith)
