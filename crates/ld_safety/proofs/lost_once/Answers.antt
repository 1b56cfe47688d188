use Rattle.ld_safety.proofs.LostLaws as laws
use Rattle.ld_safety.proofs.lost_once.Goals as goal

pub returns : goal.returns
returns = λ c. laws.lost_once
