use Rattle.ld_safety.proofs.Holding as holding
use Rattle.ld_safety.proofs.what_is_held_was_sent.Goals as goal

pub returns : goal.returns
returns c = λ k es b. holding.what_is_held_was_sent k es
