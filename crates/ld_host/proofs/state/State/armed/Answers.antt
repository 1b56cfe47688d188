use Rattle.std.proofs.Common.{subst}
use Rattle.ld_node.specs.Node.{disk_of}
use Rattle.ld_host.specs.Stands.{StandsAs}
use Rattle.ld_host.proofs.Stopping.{armed_runs, armed_too}
use Rattle.ld_host.proofs.state.State.armed.Goals as goal

pub returns-in-Up-clause-stands : goal.returns-in-Up-clause-stands
returns-in-Up-clause-stands c settings n x f is counts stands =
    let node = c.in-Up.node in
    let new = c.arm-in-Up.new.self in
    let told = c.arm-in-Up.ensures in
    armed_runs settings n node new x f c.args.fault is counts (subst (λ s. StandsAs settings n s x) c.in-Up.is stands) (armed_too (disk_of node) (disk_of new) c.args.fault told.exact) told.rest.3 told.rest.4 told.rest.2 told.layout told.holds
