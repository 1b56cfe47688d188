use Rattle.ld_bounds.proofs.Steps.{delivers_is}
use Rattle.ld_bounds.proofs.laws.deliveries_are_sound.Goals as goal

pub returns : goal.returns
returns c = λ k s i b h. delivers_is k b s h i
