use Rattle.ld_safety.proofs.Sequencing as sequencing
use Rattle.ld_safety.proofs.epochs_are_drawn_once.Goals as goal

pub returns : goal.returns
returns c = λ k es b. sequencing.epochs_are_drawn_once k es
