use Rattle.ld_served.proofs.Kept as kept
use Rattle.ld_served.proofs.what_is_well_stays_well.Goals as goal

pub returns : goal.returns
returns c = λ k es b. kept.well_stays k es b
