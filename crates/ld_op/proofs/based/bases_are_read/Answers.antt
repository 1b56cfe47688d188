use Rattle.ld_op.proofs.Basing.{index_read_back}
use Rattle.ld_op.proofs.based.bases_are_read.Goals as goal

pub returns : goal.returns
returns c p older front rest i = index_read_back front rest p older i
