use Rattle.ld_register.proofs.Growing as growing
use Rattle.ld_register.proofs.laws.epochs_rise.Goals as goal

pub returns : goal.returns
returns c a b = λ before between after s t g h same r. growing.epochs_rise a b before between after s t g h same r
