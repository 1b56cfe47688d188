use Rattle.ld_calm.proofs.InRun as runs
use Rattle.ld_calm.proofs.a_calm_is_bounded.Goals as goal

pub returns-clause-of_a_run : goal.returns-clause-of_a_run
returns-clause-of_a_run c = λ k es b. runs.calm_is_bounded k es b

pub returns-clause-after_steps : goal.returns-clause-after_steps
returns-clause-after_steps c = λ k ms b. runs.calm_is_bounded_after k ms b
