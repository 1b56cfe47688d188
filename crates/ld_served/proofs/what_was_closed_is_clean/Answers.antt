use Rattle.ld_served.proofs.Cleaned as cleaned
use Rattle.ld_served.proofs.what_was_closed_is_clean.Goals as goal

pub returns : goal.returns
returns c = λ k es b. cleaned.closed_is_clean k es b
