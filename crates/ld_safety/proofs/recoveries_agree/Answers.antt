use Rattle.ld_safety.proofs.Agreed as agreed
use Rattle.ld_safety.proofs.recoveries_agree.Goals as goal

pub returns : goal.returns
returns c = λ k es b. agreed.recoveries_agree k es
