use Rattle.ld_safety.proofs.Numbered as numbered
use Rattle.ld_safety.proofs.numbers_have_epochs.Goals as goal

pub returns-clause-one : goal.returns-clause-one
returns-clause-one c = λ k es b. numbered.one_number k es b

pub returns-clause-epochs : goal.returns-clause-epochs
returns-clause-epochs c = λ k es b. numbered.numbers_have_epochs k es b
