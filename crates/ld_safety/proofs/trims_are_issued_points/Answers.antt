use Rattle.ld_safety.proofs.Issued as issued
use Rattle.ld_safety.proofs.trims_are_issued_points.Goals as goal

pub returns : goal.returns
returns c = λ k es b. issued.trims_are_issued_points k es
