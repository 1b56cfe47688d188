use Rattle.ld_safety.proofs.HandedLaws as laws
use Rattle.ld_safety.proofs.ballots_were_drawn.Goals as goal

pub returns : goal.returns
returns c = λ k es b. laws.ballots_were_drawn k es
