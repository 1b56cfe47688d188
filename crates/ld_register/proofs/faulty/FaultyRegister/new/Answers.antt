use Rattle.std.proofs.Common.{refl}
use Rattle.ld_register.proofs.Arming.{foresees_none}
use Rattle.ld_register.proofs.faulty.FaultyRegister.new.Goals as goal

pub returns-clause-tells : goal.returns-clause-tells
returns-clause-tells g c h p is quiet stands = foresees_none _ h refl (c.new.ensures.tells h p is quiet stands)

pub returns-clause-empty : goal.returns-clause-empty
returns-clause-empty g c is = record { foretells = c.new.ensures.empty is; armed = refl }
