use Rattle.ld_safety.proofs.Invariants as invariants
use Rattle.ld_safety.proofs.invariants_hold.Goals as goal

pub returns : goal.returns
returns c = invariants.all_hold
