use Rattle.std.proofs.Common.{refl, None}
use Rattle.ld_disk.specs.Memory.{disk_plain}
use Rattle.ld_disk.specs.Plain.{after_call}
use Rattle.ld_node.specs.Node.{disk_of}
use Rattle.ld_machine.specs.Disk.{found}
use Rattle.ld_host.specs.declared.state.State.TheVariants as states
use Rattle.ld_host.proofs.Fates.{fine_reads}
use Rattle.ld_host.proofs.Rising.{if_refused, some_is, stands_found, no_first, rises, falls}
use Rattle.ld_host.proofs.run.load.Goals as goal

pub returns-in-Ok-clause-stands : goal.returns-in-Ok-clause-stands
returns-in-Ok-clause-stands c x lies =
    let p = disk_plain c.args.disk in
    let node = c.in-Ok.node in
    let up = c.in-Ok.ensures in
    let exact = up.exact p (found x x.cut) refl (fine_reads x.fault p lies.armed) (stands_found c.args.config.now c.args.id p x lies) (no_first c.args.config.now c.args.id p x lies) in
    rises c.args.config.now c.args.id p x lies node up.opens up.still (some_is (disk_plain (disk_of node)) (after_call None p) exact.0) exact.1 up.node.0 up.node.1 up.node.2 c.risen.result (states.Up node) (λ y runs. runs) c.risen.ensures.up c.risen.ensures.down

pub returns-in-Err-clause-stands : goal.returns-in-Err-clause-stands
returns-in-Err-clause-stands c x lies =
    let p = disk_plain c.args.disk in
    let not = c.in-Err.ensures in
    let left = c.refused.ensures in
    if_refused c.refused.result c.in-Err.fault (disk_plain c.in-Err.disk) _ left.full left.failed left.crashed left.memory
    (λ done refuses. let end = falls c.args.config.now c.args.id p x lies c.in-Err.fault (disk_plain c.in-Err.disk) done
    (record { exact = not.exact p (found x x.cut) refl (fine_reads x.fault p lies.armed) (stands_found c.args.config.now c.args.id p x lies) (no_first c.args.config.now c.args.id p x lies); damaged = not.damaged; full = not.full; loaded = not.needs_load; register = not.register }) refuses in (end.0, end.1))
