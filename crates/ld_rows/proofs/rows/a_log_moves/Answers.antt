use Rattle.ld_rows.proofs.Runs.{moved_is}
use Rattle.ld_rows.proofs.rows.a_log_moves.Goals as goal

pub returns : goal.returns
returns c = moved_is
