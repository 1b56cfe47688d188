use Rattle.ld_rows.proofs.Runs.{two_recoveries_is}
use Rattle.ld_rows.proofs.rows.two_recoveries_agree.Goals as goal

pub returns : goal.returns
returns c = two_recoveries_is
