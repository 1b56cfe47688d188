use Rattle.ld_safety.proofs.Rebuilt as rebuilt
use Rattle.ld_safety.proofs.lost_stands_in_lines.Goals as goal

pub returns : goal.returns
returns c = λ k es b. rebuilt.lost_stands_in_lines k es
