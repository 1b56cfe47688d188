use Rattle.ld_bounds.proofs.Configs.{first_is}
use Rattle.ld_bounds.proofs.Looks.{set_is, look_is}
use Rattle.ld_bounds.proofs.laws.specs_are_specs.Goals as goal

pub returns-clause-set : goal.returns-clause-set
returns-clause-set c = λ k s l b h i. set_is k b s l h.specs i

pub returns-clause-fixed : goal.returns-clause-fixed
returns-clause-fixed c = λ k s l e b h i. (look_is k b s.register l h.register i e).spec

pub returns-clause-first : goal.returns-clause-first
returns-clause-first c = λ k l b h. first_is k b l h

pub returns-clause-look : goal.returns-clause-look
returns-clause-look c = λ k s l e b h i. look_is k b s.register l h.register i e
