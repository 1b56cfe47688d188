use Rattle.ld_rows.proofs.Runs.{trimmed_is}
use Rattle.ld_rows.proofs.rows.records_are_trimmed.Goals as goal

pub returns : goal.returns
returns c = trimmed_is
