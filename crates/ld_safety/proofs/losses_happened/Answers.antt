use Rattle.ld_safety.proofs.LostJoined as joined
use Rattle.ld_safety.proofs.losses_happened.Goals as goal

pub returns : goal.returns
returns c = λ k es b. joined.losses_happened k es b
