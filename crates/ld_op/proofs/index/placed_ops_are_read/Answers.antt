use Rattle.ld_op.proofs.Reading.{op_read}
use Rattle.ld_op.proofs.index.placed_ops_are_read.Goals as goal

pub returns : goal.returns
returns c at o rest bytes is = op_read at o rest bytes is
