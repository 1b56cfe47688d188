use Rattle.ld_rows.proofs.Runs.{rebuilt_is}
use Rattle.ld_rows.proofs.rows.copies_are_rebuilt.Goals as goal

pub returns : goal.returns
returns c = rebuilt_is
