use Rattle.ld_served.proofs.Serves as serves
use Rattle.ld_served.proofs.each_log_is_served.Goals as goal

pub returns-clause-of_a_run : goal.returns-clause-of_a_run
returns-clause-of_a_run c = λ k es b. serves.calm_serves k es b

pub returns-clause-after_steps : goal.returns-clause-after_steps
returns-clause-after_steps c = λ k ms b. serves.calm_serves_after k ms b
