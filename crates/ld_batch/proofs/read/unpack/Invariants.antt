use Rattle.ld_batch.proofs.Unpacking.{IsSoFar}
use Rattle.ld_batch.proofs.read.unpack.Given as goal

abbrev pub invariant-messages : goal.invariant-messages
invariant-messages l = IsSoFar l.bytes l.count l.counter l.at l.messages
