use Rattle.ld_rows.proofs.Runs.{cut_off_is}
use Rattle.ld_rows.proofs.rows.a_record_is_cut_off.Goals as goal

pub returns : goal.returns
returns c = cut_off_is
