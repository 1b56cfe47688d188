use Rattle.std.proofs.Common.{[], refl}
use Rattle.ld_wire.specs.Streams.{frames_of}
use Rattle.ld_framed.specs.Writes.{Writes}
use Rattle.ld_serve.proofs.answer.answer.Goals as goal

pub returns-in_default-clause-did : goal.returns-in_default-clause-did
returns-in_default-clause-did g c = record { part = []; missing = frames_of c.args.messages.now; whole = refl; writes = Writes.none }
