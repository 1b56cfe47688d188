use Rattle.ld_safety.proofs.LostJoined as joined
use Rattle.ld_safety.proofs.every_run_is_safe.Goals as goal

pub returns : goal.returns
returns c = λ k es b. joined.every_run_is_safe k es b
