use Rattle.std.proofs.Common.{refl}
use Rattle.ld_register.proofs.Growing.{runs_on}
use Rattle.ld_register.proofs.laws.steps_make_lists.Goals as goal

pub returns-clause-none : goal.returns-clause-none
returns-clause-none c a = refl

pub returns-clause-more : goal.returns-clause-more
returns-clause-more c a b d calls call r p = runs_on a calls b d call r p
