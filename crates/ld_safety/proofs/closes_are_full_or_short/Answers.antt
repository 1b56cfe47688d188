use Rattle.ld_safety.proofs.Closes as closes
use Rattle.ld_safety.proofs.closes_are_full_or_short.Goals as goal

pub returns-clause-how : goal.returns-clause-how
returns-clause-how c = λ k es b. closes.full_or_short k es

pub returns-clause-say : goal.returns-clause-say
returns-clause-say c = λ k es b. closes.closes_say k es
