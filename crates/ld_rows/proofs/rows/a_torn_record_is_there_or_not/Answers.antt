use Rattle.ld_rows.proofs.Runs.{old_kept, new_kept, digits_kept}
use Rattle.ld_rows.proofs.rows.a_torn_record_is_there_or_not.Goals as goal

pub returns-clause-old : goal.returns-clause-old
returns-clause-old c = old_kept

pub returns-clause-new : goal.returns-clause-new
returns-clause-new c = new_kept

pub returns-clause-digits : goal.returns-clause-digits
returns-clause-digits c = digits_kept
