use Rattle.ld_safety.proofs.GivenItems as items
use Rattle.ld_safety.proofs.trims_were_issued.Goals as goal

pub returns : goal.returns
returns c = λ k es b. items.trims k es
