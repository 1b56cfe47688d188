use Rattle.ld_rows.proofs.Runs.{one_append_is}
use Rattle.ld_rows.proofs.rows.one_record_is_read.Goals as goal

pub returns : goal.returns
returns c = one_append_is
