use Rattle.ld_rows.proofs.Runs.{hole_between_is}
use Rattle.ld_rows.proofs.rows.a_hole_stands_between.Goals as goal

pub returns : goal.returns
returns c = hole_between_is
