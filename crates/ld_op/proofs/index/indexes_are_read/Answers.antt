use Rattle.ld_op.specs.Cells.{byte_at}
use Rattle.ld_op.proofs.Reading.{op_read}
use Rattle.ld_op.proofs.Agree.{plain_same, op_reads}
use Rattle.ld_op.proofs.Ordered.{apply_ordered}
use Rattle.ld_op.proofs.index.indexes_are_read.Goals as goal

pub returns-clause-same : goal.returns-clause-same
returns-clause-same c i before now ordered agree = plain_same (byte_at now) (byte_at before) i ordered agree

pub returns-clause-kept : goal.returns-clause-kept
returns-clause-kept c i o at rest before now same is = op_reads i o at before now same (op_read at o rest now is)

pub returns-clause-ordered : goal.returns-clause-ordered
returns-clause-ordered c i o rising ordered = apply_ordered i o rising ordered
