use Rattle.ld_safety.proofs.HandedLaws as laws
use Rattle.ld_safety.proofs.generations_are_drawn_once.Goals as goal

pub returns : goal.returns
returns c = λ k es b. laws.generations_are_drawn_once k es
