use Rattle.ld_safety.proofs.Unhidden as unhidden
use Rattle.ld_safety.proofs.nothing_is_hidden.Goals as goal

pub returns : goal.returns
returns c = λ k es b. unhidden.nothing_hidden k es
