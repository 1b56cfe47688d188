use Rattle.ld_rows.proofs.Runs.{later_told, later_asked, later_first, later_third, later_states}
use Rattle.ld_rows.proofs.rows.a_torn_rebuild_is_found_lost_later.Goals as goal

pub returns-clause-told : goal.returns-clause-told
returns-clause-told c = later_told

pub returns-clause-asked : goal.returns-clause-asked
returns-clause-asked c = later_asked

pub returns-clause-first : goal.returns-clause-first
returns-clause-first c = later_first

pub returns-clause-third : goal.returns-clause-third
returns-clause-third c = later_third

pub returns-clause-states : goal.returns-clause-states
returns-clause-states c = later_states
