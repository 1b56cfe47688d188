use Rattle.ld_safety.proofs.HandedLaws as laws
use Rattle.ld_safety.proofs.summaries_agree.Goals as goal

pub returns : goal.returns
returns c = λ k es b. laws.summaries_agree k es
