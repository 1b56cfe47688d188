use Rattle.ld_safety.proofs.LostLaws as laws
use Rattle.ld_safety.proofs.losses_were_seen.Goals as goal

pub returns : goal.returns
returns = λ c. laws.losses_were_seen
