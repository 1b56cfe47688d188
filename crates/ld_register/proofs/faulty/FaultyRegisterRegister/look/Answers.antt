use Rattle.std.proofs.Common.{refl}
use Rattle.ld_register.specs.Calls.{unarmed}
use Rattle.ld_register.proofs.Arming.{armed_looked}
use Rattle.ld_register.proofs.faulty.FaultyRegisterRegister.look.Goals as goal

pub returns-clause-meets : goal.returns-clause-meets
returns-clause-meets g c = armed_looked _ _ _ _ (λ h. refl) refl refl c.look.ensures.meets

pub returns-clause-exact : goal.returns-clause-exact
returns-clause-exact g c h f = let x = c.look.ensures.exact (unarmed h) f.foretells in (x.0, record { foretells = x.1; armed = f.armed })
