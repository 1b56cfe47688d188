use Rattle.ld_safety.proofs.Numbers as numbers
use Rattle.ld_safety.proofs.numbers_rise.Goals as goal

pub returns : goal.returns
returns c = λ k es b. numbers.rise k es
