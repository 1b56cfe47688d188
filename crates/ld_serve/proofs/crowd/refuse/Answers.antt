use Rattle.std.proofs.Common.{arith, refl}
use Rattle.ld_wire.specs.Judging.{judge}
use Rattle.ld_serve.proofs.CrowdStops.{refused_by}
use Rattle.ld_serve.proofs.crowd.refuse.Goals as goal

pub returns-in_default : goal.returns-in_default
returns-in_default g c = record { off = (refl, c.dismiss.ensures.did, λ bytes is. refused_by (judge bytes) c.args.fault c.in_default.not-NoMemory is); few = omega arith; stops = tt; faults = c.dismiss.ensures.faults }
