use Rattle.ld_safety.proofs.Holding as holding
use Rattle.ld_safety.proofs.plans_are_made_once.Goals as goal

pub returns : goal.returns
returns c = λ k es b. holding.plans_are_made_once k es
