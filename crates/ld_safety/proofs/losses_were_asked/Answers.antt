use Rattle.ld_safety.proofs.LossAsked as asked
use Rattle.ld_safety.proofs.losses_were_asked.Goals as goal

pub returns : goal.returns
returns c = asked.losses_were_asked
