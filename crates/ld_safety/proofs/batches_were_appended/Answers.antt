use Rattle.ld_safety.proofs.GivenItems as items
use Rattle.ld_safety.proofs.batches_were_appended.Goals as goal

pub returns : goal.returns
returns c = λ k es b. items.batches k es
