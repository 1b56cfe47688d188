use Rattle.ld_op.proofs.Cells.{apply_same}
use Rattle.ld_op.proofs.index.ops_leave_payloads.Goals as goal

pub returns : goal.returns
returns c f p o = apply_same f p o
