use Rattle.ld_wire.proofs.Judges.{message_of}
use Rattle.ld_wire.proofs.head.read_frame.Goals as goal

pub returns-clause-message : goal.returns-clause-message
returns-clause-message c = message_of c.judged.result c.args.bytes.now c.judged.ensures.bytes c.judged.ensures.some
