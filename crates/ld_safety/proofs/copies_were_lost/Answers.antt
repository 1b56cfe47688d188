use Rattle.ld_safety.proofs.LostJoined as joined
use Rattle.ld_safety.proofs.copies_were_lost.Goals as goal

pub returns : goal.returns
returns = λ c. joined.copies_were_lost
