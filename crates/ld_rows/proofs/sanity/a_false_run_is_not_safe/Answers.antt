use Rattle.ld_rows.proofs.Tampering.{payload_unsafe, hole_unsafe, trim_unsafe, loss_unsafe, message_unsafe, space_unsafe, order_unsafe, missing_unsafe, fall_unsafe}
use Rattle.ld_rows.proofs.sanity.a_false_run_is_not_safe.Goals as goal

pub returns-clause-payload : goal.returns-clause-payload
returns-clause-payload c = payload_unsafe

pub returns-clause-hole : goal.returns-clause-hole
returns-clause-hole c = hole_unsafe

pub returns-clause-trim : goal.returns-clause-trim
returns-clause-trim c = trim_unsafe

pub returns-clause-loss : goal.returns-clause-loss
returns-clause-loss c = loss_unsafe

pub returns-clause-message : goal.returns-clause-message
returns-clause-message c = message_unsafe

pub returns-clause-space : goal.returns-clause-space
returns-clause-space c = space_unsafe

pub returns-clause-order : goal.returns-clause-order
returns-clause-order c = order_unsafe

pub returns-clause-missing : goal.returns-clause-missing
returns-clause-missing c = missing_unsafe

pub returns-clause-fall : goal.returns-clause-fall
returns-clause-fall c = fall_unsafe
