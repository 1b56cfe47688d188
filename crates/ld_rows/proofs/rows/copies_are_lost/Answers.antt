use Rattle.ld_rows.proofs.Runs.{lost_is}
use Rattle.ld_rows.proofs.rows.copies_are_lost.Goals as goal

pub returns : goal.returns
returns c = lost_is
