use Rattle.ld_bounds.proofs.Steps.{step_is, delivery_is}
use Rattle.ld_bounds.proofs.laws.steps_stay_sound.Goals as goal

pub returns-clause-step : goal.returns-clause-step
returns-clause-step c = λ k s e b i h. step_is k b s e i h

pub returns-clause-delivery : goal.returns-clause-delivery
returns-clause-delivery c = λ k s i b h. delivery_is k b s i h
