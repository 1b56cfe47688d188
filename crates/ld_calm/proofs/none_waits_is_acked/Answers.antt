use Rattle.ld_calm.proofs.InRun as runs
use Rattle.ld_calm.proofs.none_waits_is_acked.Goals as goal

pub returns : goal.returns
returns c = λ k es b. runs.none_waits_is_acked k es b
