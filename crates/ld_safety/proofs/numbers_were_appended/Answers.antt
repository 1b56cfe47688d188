use Rattle.ld_safety.proofs.Numbered as numbered
use Rattle.ld_safety.proofs.numbers_were_appended.Goals as goal

pub returns-clause-acked : goal.returns-clause-acked
returns-clause-acked c = λ k es b. numbered.acks_appended k es b

pub returns-clause-released : goal.returns-clause-released
returns-clause-released c = λ k es b. numbered.releases_acked k es b
