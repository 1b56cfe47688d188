use Rattle.ld_safety.proofs.Retained as retained
use Rattle.ld_safety.proofs.seals_hold.Goals as goal

pub returns : goal.returns
returns c = λ k es b. retained.seals_hold k es
