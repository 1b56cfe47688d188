use Rattle.ld_safety.proofs.Agreed as agreed
use Rattle.ld_safety.proofs.losses_are_planned.Goals as goal

pub returns-clause-gone : goal.returns-clause-gone
returns-clause-gone c = λ k es b. agreed.losses_were_gone k es

pub returns-clause-last : goal.returns-clause-last
returns-clause-last c = λ k es b. agreed.losses_are_last k es

pub returns-clause-say : goal.returns-clause-say
returns-clause-say c = λ k es b. agreed.losses_say_so k es
