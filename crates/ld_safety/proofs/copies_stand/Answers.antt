use Rattle.ld_safety.proofs.Entries as entries
use Rattle.ld_safety.proofs.copies_stand.Goals as goal

pub returns-clause-settled : goal.returns-clause-settled
returns-clause-settled c = λ k es b. (entries.all_copies_stand k es b).closed_epochs

pub returns-clause-short : goal.returns-clause-short
returns-clause-short c = λ k es b. (entries.all_copies_stand k es b).closed_short

pub returns-clause-known_good : goal.returns-clause-known_good
returns-clause-known_good c = λ k es b. (entries.all_copies_stand k es b).known_good
