use Rattle.std.proofs.Common.{◌≡◌, ◌⊎◌, refl, sym, ◌∙◌, ap, subst, inl, inr, ⊎_elim, Some, Ok, Err}
use Rattle.ld_disk.specs.Memory.{disk_plain}
use Rattle.ld_register.specs.Calls.{after_draw}
use Rattle.ld_register.specs.Calls as calls
use Rattle.ld_machine.specs.Disk.{load}
use Rattle.ld_node.specs.Formats.{FormatsBy}
use Rattle.ld_node.specs.Node.{id_of, disk_of, layout_of, slots_of}
use Rattle.ld_node.specs.declared.fault.NodeFault.TheVariants as faults
use Rattle.ld_host.proofs.Answering.{ok_no_error, error_in}
use Rattle.ld_host.proofs.Formatting.{by_here, was_kept, formats_done, formats_undone, is_op_of, nothing_of}
use Rattle.ld_host.proofs.format.draw.Goals as goal

pub returns-in-Ok-clause-formats : goal.returns-in-Ok-clause-formats
returns-in-Ok-clause-formats g c settings n x r fresh loaded tells =
    let node = c.args.node in
    let new = c.format.new.self in
    let told = c.in-Ok.ensures in
    let drawn = c.in-Ok.drawn in
    let p = disk_plain (disk_of node) in
    let y = (load x).layout in
    let z = fresh.lies.slots in
    let tells_then = g.G.Register.tells c.format.new.reg in
    let after : tells_then (after_draw r n) = ⊎_elim (λ no. nothing_of (ok_no_error drawn faults.NoMemory no.0)) (λ t. subst (λ k. tells_then (after_draw r k)) fresh.id t) (told.tells r fresh.holds.works tells) in
    let by : FormatsBy y z p (calls.drawn r n) (Some (disk_plain (disk_of new))) (Ok drawn) = ⊎_elim (λ no. nothing_of (ok_no_error drawn faults.NoMemory no))
    (λ b. by_here settings n node x r tells_then fresh loaded (Some (disk_plain (disk_of new))) (Ok drawn) b) (told.exact r p fresh.holds tells refl) in
    let was = was_kept y z p (Some (disk_plain (disk_of new))) (calls.drawn r n) drawn by in
    formats_done settings n node x r tells_then fresh loaded after drawn new was told.rest.0 told.rest.1 told.rest.2 told.laid (told.acknowledged fresh.holds) told.made

pub returns-in-Err-clause-formats : goal.returns-in-Err-clause-formats
returns-in-Err-clause-formats g c settings n x r fresh loaded tells =
    let node = c.args.node in
    let told = c.in-Err.ensures in
    let fault = c.in-Err.fault in
    let m = c.into_disk.result in
    let p = disk_plain (disk_of node) in
    let now = ap disk_plain c.into_disk.ensures in
    let tells_then = g.G.Register.tells c.format.new.reg in
    let told_then : (fault ≡ faults.NoMemory) ⊎ tells_then (after_draw r n) = ⊎_elim (λ no. inl (error_in fault faults.NoMemory no.0)) (λ t. inr (subst (λ k. tells_then (after_draw r k)) fresh.id t)) (told.tells r fresh.holds.works tells) in
    let by : (fault ≡ faults.NoMemory) ⊎ FormatsBy (layout_of node) (slots_of node) p (calls.drawn r (id_of node)) (Some (disk_plain m)) (Err fault) = ⊎_elim (λ no. inl (error_in fault faults.NoMemory no))
    (λ b. inr (subst (λ q. FormatsBy (layout_of node) (slots_of node) p (calls.drawn r (id_of node)) (Some q) (Err fault)) (sym now) b)) (told.exact r p fresh.holds tells refl) in
    formats_undone settings n node x r tells_then fresh loaded fault m c.undone.result told_then c.undone.ensures.refused c.undone.ensures.not_kept by
    (λ d granted either. let o = told.op r tells (⊎_elim (λ e. inl (ap Err e)) (λ e. inr (ap Err e)) either) in is_op_of o.0 d (calls.drawn r n) (o.1 ∙ ap (λ k. calls.drawn r k) fresh.id) granted o.2)
