use Rattle.ld_bounds.proofs.Steps.{sent_is, marked_is}
use Rattle.ld_bounds.proofs.laws.networks_stay_sound.Goals as goal

pub returns-clause-sent : goal.returns-clause-sent
returns-clause-sent c = λ k s ms h a. sent_is k s ms h a

pub returns-clause-marked : goal.returns-clause-marked
returns-clause-marked c = λ k s i h. marked_is k s h i
