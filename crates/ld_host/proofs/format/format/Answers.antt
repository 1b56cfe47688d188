use Rattle.std.proofs.Common.{refl, None, sym, ◌∙◌, true≢false}
use Rattle.ld_disk.specs.Memory.{disk_plain}
use Rattle.ld_disk.specs.Plain.{after_call}
use Rattle.ld_machine.specs.Disk.{load, found}
use Rattle.ld_node.specs.Node.{disk_of}
use Rattle.ld_host.proofs.Fates.{fine_reads}
use Rattle.ld_host.proofs.Rising.{some_is, stands_found, no_first, blank_stays, fresh, falls}
use Rattle.ld_host.proofs.format.format.Goals as goal

pub returns-then-is_blank-clause-formats : goal.returns-then-is_blank-clause-formats
returns-then-is_blank-clause-formats g c x r blank tells =
    let config = c.args.config.now in
    let p = disk_plain c.args.disk in
    let node = c.in-Ok.node in
    let up = c.in-Ok.ensures in
    let exact = up.exact p (found x x.cut) refl (fine_reads x.fault p blank.lies.armed) (stands_found config c.args.id p x blank.lies) (no_first config c.args.id p x blank.lies) in
    let disk = some_is (disk_plain (disk_of node)) (after_call None p) exact.0 in
    let is = fresh config c.args.id p x blank.lies node up.opens up.still disk exact.1 up.node.0 up.node.1 up.node.2 (blank_stays config c.args.id p x blank.lies node up.opens up.still disk exact.1 blank.cut blank.plain) in
    c.draw.ensures.formats config c.args.id x r is.0 is.1 tells

pub returns-else-is_blank-clause-formats : goal.returns-else-is_blank-clause-formats
returns-else-is_blank-clause-formats g c x r blank tells =
    let config = c.args.config.now in
    let p = disk_plain c.args.disk in
    let node = c.in-Ok.node in
    let up = c.in-Ok.ensures in
    let exact = up.exact p (found x x.cut) refl (fine_reads x.fault p blank.lies.armed) (stands_found config c.args.id p x blank.lies) (no_first config c.args.id p x blank.lies) in
    let disk = some_is (disk_plain (disk_of node)) (after_call None p) exact.0 in
    let is = blank_stays config c.args.id p x blank.lies node up.opens up.still disk exact.1 blank.cut blank.plain in
    absurd (true≢false (sym is ∙ (sym c.is_blank.ensures ∙ c.if-is_blank.false)))

pub returns-in_ok-state-in-Err-clause-formats : goal.returns-in_ok-state-in-Err-clause-formats
returns-in_ok-state-in-Err-clause-formats g c x r blank tells =
    let p = disk_plain c.args.disk in
    let not = c.in-Err.ensures in
    let left = c.in_ok-state-in-Err.ensures in
    let end = falls c.args.config.now c.args.id p x blank.lies c.in-Err.fault (disk_plain c.in-Err.disk) (c.in_ok-state-in-Err.state, c.in_ok-state-in-Err.kept)
    (record { exact = not.exact p (found x x.cut) refl (fine_reads x.fault p blank.lies.armed) (stands_found c.args.config.now c.args.id p x blank.lies) (no_first c.args.config.now c.args.id p x blank.lies); damaged = not.damaged; full = not.full; loaded = not.needs_load; register = not.register })
    (record { full = left.full; failed = left.failed; crashed = left.crashed; memory = left.memory }) in
    record { node = load x; register = r; stands = end.0; told = tells; does = (end.1, end.2, refl, refl) }
