use Rattle.ld_rows.proofs.Runs.{not_switched, switched_alone, switched_unkept, switched_kept}
use Rattle.ld_rows.proofs.rows.a_torn_switch_is_there_or_not.Goals as goal

pub returns-clause-old : goal.returns-clause-old
returns-clause-old c = not_switched

pub returns-clause-new : goal.returns-clause-new
returns-clause-new c = switched_alone

pub returns-clause-unkept : goal.returns-clause-unkept
returns-clause-unkept c = switched_unkept

pub returns-clause-kept : goal.returns-clause-kept
returns-clause-kept c = switched_kept
