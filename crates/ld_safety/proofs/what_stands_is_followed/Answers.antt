use Rattle.ld_safety.proofs.Standing as standing
use Rattle.ld_safety.proofs.what_stands_is_followed.Goals as goal

pub returns : goal.returns
returns c = λ k es b. standing.what_stands_is_followed k es
