use Rattle.ld_rows.proofs.Confirming.{same_round, other_round, other_number, other_log, too_soon}
use Rattle.ld_rows.proofs.sanity.a_loss_is_confirmed_once.Goals as goal

pub returns-clause-same_round : goal.returns-clause-same_round
returns-clause-same_round c = same_round

pub returns-clause-other_round : goal.returns-clause-other_round
returns-clause-other_round c = other_round

pub returns-clause-other_number : goal.returns-clause-other_number
returns-clause-other_number c = other_number

pub returns-clause-other_log : goal.returns-clause-other_log
returns-clause-other_log c = other_log

pub returns-clause-too_soon : goal.returns-clause-too_soon
returns-clause-too_soon c = too_soon
