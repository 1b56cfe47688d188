use Rattle.ld_wire.proofs.Judges.{read_back}
use Rattle.ld_wire.proofs.laws.frames_are_read_back.Goals as goal

pub returns-clause-back : goal.returns-clause-back
returns-clause-back c = read_back
