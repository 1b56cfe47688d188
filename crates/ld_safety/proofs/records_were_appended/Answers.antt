use Rattle.ld_safety.proofs.GivenItems as items
use Rattle.ld_safety.proofs.records_were_appended.Goals as goal

pub returns : goal.returns
returns c = λ k es b. items.records k es
