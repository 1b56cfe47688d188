use Rattle.ld_batch.proofs.Unpacking.{packed_or_not}
use Rattle.ld_batch.proofs.law.unpacks_what_is_packed.Goals as goal

pub returns : goal.returns
returns c = packed_or_not
