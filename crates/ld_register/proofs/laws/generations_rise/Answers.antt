use Rattle.ld_register.proofs.Growing as growing
use Rattle.ld_register.proofs.laws.generations_rise.Goals as goal

pub returns : goal.returns
returns c a b = λ before between after n g h r. growing.generations_rise a b before between after n g h r
