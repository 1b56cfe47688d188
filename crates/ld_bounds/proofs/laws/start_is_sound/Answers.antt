use Rattle.ld_bounds.proofs.Steps.{start_is}
use Rattle.ld_bounds.proofs.laws.start_is_sound.Goals as goal

pub returns : goal.returns
returns c = λ k b. start_is k b
