use Rattle.ld_register.proofs.Growing as growing
use Rattle.ld_register.proofs.laws.closes_are_shown.Goals as goal

pub returns : goal.returns
returns c a b = λ before between after l e y short n v r. growing.close_is_shown a b before between after l e y short n v r
