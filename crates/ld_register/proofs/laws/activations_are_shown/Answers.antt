use Rattle.ld_register.proofs.Growing as growing
use Rattle.ld_register.proofs.laws.activations_are_shown.Goals as goal

pub returns : goal.returns
returns c a b = λ before between after s g v r still. growing.fixed_is_shown a b before between after s g v r still
