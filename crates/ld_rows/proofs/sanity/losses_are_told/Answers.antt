use Rattle.ld_rows.proofs.Runs.{lost_told, none_told}
use Rattle.ld_rows.proofs.sanity.losses_are_told.Goals as goal

pub returns-clause-told : goal.returns-clause-told
returns-clause-told c = lost_told

pub returns-clause-none : goal.returns-clause-none
returns-clause-none c = none_told
