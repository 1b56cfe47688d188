use Rattle.ld_served.proofs.Settles as settles
use Rattle.ld_served.proofs.what_waits_is_settled.Goals as goal

pub returns : goal.returns
returns c = λ k es b. settles.calm_settles k es b
