use Rattle.ld_safety.proofs.Retained as retained
use Rattle.ld_safety.proofs.stored_stays.Goals as goal

pub returns : goal.returns
returns c = λ k es b. retained.stored_stays k es
