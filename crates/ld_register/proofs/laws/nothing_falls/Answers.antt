use Rattle.ld_register.proofs.Growing as growing
use Rattle.ld_register.proofs.laws.nothing_falls.Goals as goal

pub returns-clause-epoch : goal.returns-clause-epoch
returns-clause-epoch c = λ a b calls l r. ((growing.runs_grow a calls b r).logs l).epoch

pub returns-clause-lce : goal.returns-clause-lce
returns-clause-lce c = λ a b calls l r. ((growing.runs_grow a calls b r).logs l).lce

pub returns-clause-swaps : goal.returns-clause-swaps
returns-clause-swaps c = λ a b calls l r. ((growing.runs_grow a calls b r).logs l).swaps

pub returns-clause-generation : goal.returns-clause-generation
returns-clause-generation c = λ a b calls n r. (growing.runs_grow a calls b r).generations n
