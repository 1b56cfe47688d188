use Rattle.ld_rows.proofs.Runs.{torn_rebuild_is, not_yet_asked, asked_again, lost_at_1, lost_at_2, lost_at_3}
use Rattle.ld_rows.proofs.rows.a_torn_rebuild_is_lost_still.Goals as goal

pub returns-clause-told : goal.returns-clause-told
returns-clause-told c = torn_rebuild_is

pub returns-clause-before : goal.returns-clause-before
returns-clause-before c = not_yet_asked

pub returns-clause-asked : goal.returns-clause-asked
returns-clause-asked c = asked_again

pub returns-clause-first : goal.returns-clause-first
returns-clause-first c = lost_at_1

pub returns-clause-second : goal.returns-clause-second
returns-clause-second c = lost_at_2

pub returns-clause-third : goal.returns-clause-third
returns-clause-third c = lost_at_3
