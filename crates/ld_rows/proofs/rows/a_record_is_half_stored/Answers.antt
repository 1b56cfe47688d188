use Rattle.ld_rows.proofs.Runs.{half_stored_is}
use Rattle.ld_rows.proofs.rows.a_record_is_half_stored.Goals as goal

pub returns : goal.returns
returns c = half_stored_is
