use Rattle.ld_register.proofs.Growing as growing
use Rattle.ld_register.proofs.laws.specs_stay.Goals as goal

pub returns-clause-fixed : goal.returns-clause-fixed
returns-clause-fixed c a b = λ calls l e r most. growing.specs_fixed a b calls l e r most

pub returns-clause-told : goal.returns-clause-told
returns-clause-told c a b = λ calls l e r one most same. growing.specs_told a b calls l e r one most same
