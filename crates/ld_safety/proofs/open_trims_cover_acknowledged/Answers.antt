use Rattle.ld_safety.proofs.Released as released
use Rattle.ld_safety.proofs.open_trims_cover_acknowledged.Goals as goal

pub returns : goal.returns
returns c = λ k es b. released.open_trims_cover_acknowledged k es b
