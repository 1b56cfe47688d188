use Rattle.ld_bounds.proofs.Steps.{happens_is}
use Rattle.ld_bounds.proofs.laws.events_are_sound.Goals as goal

pub returns : goal.returns
returns c = λ k s e b i h. happens_is k b s e i h
