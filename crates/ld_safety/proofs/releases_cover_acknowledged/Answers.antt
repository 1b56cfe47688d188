use Rattle.ld_safety.proofs.Released as released
use Rattle.ld_safety.proofs.releases_cover_acknowledged.Goals as goal

pub returns : goal.returns
returns c = λ k es b. released.releases_cover_acknowledged k es b
