use Rattle.std.proofs.Common.{refl}
use Rattle.ld_host.proofs.Stopping.{new_blank}
use Rattle.ld_host.proofs.host.Host.new.Goals as goal

pub returns-in-Ok : goal.returns-in-Ok
returns-in-Ok c = record { stands = λ settings. record { id = refl; state = new_blank c.in-Ok.disk c.in-Ok.ensures.plain } }
