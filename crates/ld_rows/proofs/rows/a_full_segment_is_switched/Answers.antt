use Rattle.ld_rows.proofs.Runs.{tenth_fails, eleventh_passes}
use Rattle.ld_rows.proofs.rows.a_full_segment_is_switched.Goals as goal

pub returns-clause-tenth : goal.returns-clause-tenth
returns-clause-tenth c = tenth_fails

pub returns-clause-eleventh : goal.returns-clause-eleventh
returns-clause-eleventh c = eleventh_passes
