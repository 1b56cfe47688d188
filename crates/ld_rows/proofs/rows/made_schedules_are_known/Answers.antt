use Rattle.ld_rows.proofs.Runs.{none_made, one_made}
use Rattle.ld_rows.proofs.rows.made_schedules_are_known.Goals as goal

pub returns-clause-none : goal.returns-clause-none
returns-clause-none c = none_made

pub returns-clause-one : goal.returns-clause-one
returns-clause-one c = one_made
