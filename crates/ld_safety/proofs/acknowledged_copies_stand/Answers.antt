use Rattle.ld_safety.proofs.Entries as entries
use Rattle.ld_safety.proofs.HandedLaws as handed
use Rattle.ld_safety.proofs.acknowledged_copies_stand.Goals as goal

pub returns-clause-enough : goal.returns-clause-enough
returns-clause-enough c = λ k es b. (entries.all_copies_stand k es b).acked

pub returns-clause-kept : goal.returns-clause-kept
returns-clause-kept c = λ k es b. (entries.all_copies_stand k es b).open_epochs

pub returns-clause-set : goal.returns-clause-set
returns-clause-set c = λ k es b. handed.open_sets k es
