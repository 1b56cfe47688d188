use Rattle.ld_machine.specs.Calm.{moves}
use Rattle.ld_bounds.proofs.Steps.{finish_is, move_is}
use Rattle.ld_bounds.proofs.laws.moves_are_sound.Goals as goal

pub returns-clause-done : goal.returns-clause-done
returns-clause-done c = λ k s m b i h. move_is k b s m i h

pub returns-clause-state : goal.returns-clause-state
returns-clause-state c = λ k s m b i h. finish_is k (moves k s m) (move_is k b s m i h)
