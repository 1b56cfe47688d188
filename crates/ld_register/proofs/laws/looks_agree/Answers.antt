use Rattle.ld_register.proofs.Growing as growing
use Rattle.ld_register.proofs.laws.looks_agree.Goals as goal

pub returns : goal.returns
returns c a b = λ before between after l e k v w r. growing.looks_agree a b before between after l e k v w r
