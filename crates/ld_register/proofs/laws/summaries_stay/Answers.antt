use Rattle.ld_register.proofs.Growing as growing
use Rattle.ld_register.proofs.laws.summaries_stay.Goals as goal

pub returns : goal.returns
returns c a b = λ calls l e y r h. growing.summary_stays a b calls l e y r h
