use Rattle.ld_calm.proofs.InRun as runs
use Rattle.ld_calm.proofs.a_calm_ends.Goals as goal

pub returns-clause-of_a_run : goal.returns-clause-of_a_run
returns-clause-of_a_run c = λ k es b. runs.calm_ends k es b

pub returns-clause-after_steps : goal.returns-clause-after_steps
returns-clause-after_steps c = λ k ms b. runs.calm_ends_after k ms b
