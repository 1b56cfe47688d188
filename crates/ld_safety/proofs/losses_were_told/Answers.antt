use Rattle.ld_safety.proofs.LostJoined as joined
use Rattle.ld_safety.proofs.losses_were_told.Goals as goal

pub returns : goal.returns
returns = λ c. joined.losses_were_told
