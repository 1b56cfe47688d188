use Rattle.ld_safety.proofs.OneCopy as copies
use Rattle.ld_safety.proofs.one_node_sends.Goals as goal

pub returns : goal.returns
returns c = λ k ms b. copies.one_node_sends k ms
