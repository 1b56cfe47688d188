use Rattle.ld_safety.proofs.Numbers as numbers
use Rattle.ld_safety.proofs.numbers_differ.Goals as goal

pub returns : goal.returns
returns c = λ k es b. numbers.differ k es
