use Rattle.std.proofs.Common.{inl, inr, ⊎_elim, refl, sym, subst, ◌∙◌}
use Rattle.ld_disk.specs.Moments.{LeavesOnly}
use Rattle.ld_disk.proofs.Runs.{begins_on}
use Rattle.ld_op.specs.Plain.{Plain}
use Rattle.ld_store.specs.Ops.{StandsForEither}
use Rattle.ld_store.specs.Open.{disk_of as store_disk}
use Rattle.ld_node.specs.Changes.{kept, IsPast}
use Rattle.ld_node.specs.Node.{disk_of, plain_of}
use Rattle.ld_node.specs.Staged.{HoldsEither}
use Rattle.std.proofs.lemmas.Result.{err_from_is_err_and}
use Rattle.ld_node.specs.declared.fault.NodeFault.TheVariants as nodes
use Rattle.ld_node.proofs.Calls.{reads_leave_staged}
use Rattle.ld_node.proofs.Quiet.{none_raised, on_err}
use Rattle.ld_node.proofs.Refusals.{disk_same, fault_same}
use Rattle.ld_node.proofs.ByIndex.{does_by_index}
use Rattle.ld_node.proofs.node.Node.stage_msg.Goals as goal

-- ---- an op that is staged ----

pub returns-clause-kept : goal.returns-clause-kept
returns-clause-kept g c p holds =
    c.in_ok-stage.ensures.applied p (c.in_ok-op.ensures.held_staged p holds) ∙ (λ i. kept (c.in_ok-op.ensures.op_staged p holds i) (c.in_ok-op.ensures.plain i))

pub returns-clause-staged : goal.returns-clause-staged
returns-clause-staged g c p holds =
    subst (λ (r : Plain). HoldsEither g.D.Disk.seen g.D.Disk.may_leave c.stage.new.store p r) c.in_ok-op.ensures.plain (c.in_ok-stage.ensures.staged p (c.in_ok-op.ensures.held_staged p holds))

pub returns-clause-any_moment : goal.returns-clause-any_moment
returns-clause-any_moment g c p holds =
    let D = g.D.Disk in
    let node = c.args.self.now in
    let told = c.in_ok-op.ensures in
    begins_on D.moment D.left_since D.seen D.may_leave (disk_of node) (store_disk c.prepare.new.store) (store_disk c.stage.new.store) _ told.same
    (subst (λ (r : Plain). LeavesOnly D.moment D.left_since (store_disk c.prepare.new.store) (store_disk c.stage.new.store) (StandsForEither p r)) told.plain (c.in_ok-stage.ensures.any_moment p (told.held_staged p holds)))

-- ---- a refusal ----

pub returns-in_err-op-clause-any_moment : goal.returns-in_err-op-clause-any_moment
returns-in_err-op-clause-any_moment g c p holds =
    let D = g.D.Disk in
    reads_leave_staged D.seen D.may_leave D.moment D.left_since c.args.self.now.store (store_disk c.prepare.new.store) p (plain_of c.args.self.now) g.met.D.Disk.only_now holds c.in_err-op.ensures.same

pub returns-in_err-op-clause-stays : goal.returns-in_err-op-clause-stays
returns-in_err-op-clause-stays g c p holds =
    let q = err_from_is_err_and c.from_residual.result c.from_residual.ensures.1 in
    rw (q.1, q.2) (disk_same c.in_err-op.field-0.0 _ (⊎_elim (λ e. inl e) (λ still. inr (c.in_err-op.ensures.plain, (p, inl refl, still))) (c.in_err-op.ensures.ahead p holds)))

pub returns-in_err-op-clause-refused : goal.returns-in_err-op-clause-refused
returns-in_err-op-clause-refused g c = on_err c.from_residual.result _ (inr (c.in_err-op.ensures.rest.2, c.in_err-op.ensures.rest.0, c.in_err-op.ensures.rest.1, refl))

pub returns-in_err-release-clause-any_moment : goal.returns-in_err-release-clause-any_moment
returns-in_err-release-clause-any_moment g c p holds =
    let D = g.D.Disk in
    reads_leave_staged D.seen D.may_leave D.moment D.left_since c.args.self.now.store (store_disk c.prepare.new.store) p (plain_of c.args.self.now) g.met.D.Disk.only_now holds c.in_ok-op.ensures.same

pub returns-in_err-release-clause-stays : goal.returns-in_err-release-clause-stays
returns-in_err-release-clause-stays g c p holds =
    on_err c.from_residual-in_err-release.result _ (inr (c.in_ok-op.ensures.plain, (p, inl refl, c.in_ok-op.ensures.held_staged p holds)))

pub returns-in_err-release-clause-refused : goal.returns-in_err-release-clause-refused
returns-in_err-release-clause-refused g c =
    on_err c.from_residual-in_err-release.result _ (inr (c.in_ok-op.ensures.rest.2, c.in_ok-op.ensures.rest.0, c.in_ok-op.ensures.rest.1, c.in_err-release.ensures.err))

pub returns-in_err-stage-clause-any_moment : goal.returns-in_err-stage-clause-any_moment
returns-in_err-stage-clause-any_moment g c p holds =
    let D = g.D.Disk in
    let node = c.args.self.now in
    let told = c.in_ok-op.ensures in
    begins_on D.moment D.left_since D.seen D.may_leave (disk_of node) (store_disk c.prepare.new.store) (store_disk c.stage.new.store) _ told.same
    (subst (λ (r : Plain). LeavesOnly D.moment D.left_since (store_disk c.prepare.new.store) (store_disk c.stage.new.store) (StandsForEither p r)) told.plain (c.in_err-stage.ensures.any_moment p (told.held_staged p holds)))

pub returns-in_err-stage-clause-stays : goal.returns-in_err-stage-clause-stays
returns-in_err-stage-clause-stays g c p holds =
    let told = c.in_ok-op.ensures in
    let q = err_from_is_err_and c.from_residual-in_err-stage.result c.from_residual-in_err-stage.ensures.1 in
    rw (q.1, q.2) (disk_same c.in_err-stage.field-0.0 _ (⊎_elim (λ e. inl e)
    (λ still. inr (still.0 ∙ told.plain, subst (λ (r : Plain). HoldsEither g.D.Disk.seen g.D.Disk.may_leave c.stage.new.store p r) told.plain still.1)) (c.in_err-stage.ensures.stays p (told.held_staged p holds))))

pub returns-in_err-stage-clause-refused : goal.returns-in_err-stage-clause-refused
returns-in_err-stage-clause-refused g c =
    let node = c.args.self.now in
    let told = c.in_ok-op.ensures in
    let silent = none_raised node.released.entries c.args.msg.now.log c.released_by-number.result (λ y number. absurd (cc (c.in_err-stage.ensures.none (told.released y (sym c.released_by-number.ensures ∙ number))))) in
    on_err c.from_residual-in_err-stage.result _ (inr (c.in_err-stage.ensures.refused.0 ∙ told.rest.2, c.in_err-stage.ensures.refused.1 ∙ told.rest.0, c.in_err-stage.ensures.refused.2 ∙ told.rest.1, c.in_ok-release.ensures.ok ∙ silent))

pub returns-in_err-stage-clause-full : goal.returns-in_err-stage-clause-full
returns-in_err-stage-clause-full g c p holds is =
    let told = c.in_ok-op.ensures in
    let q = err_from_is_err_and c.from_residual-in_err-stage.result c.from_residual-in_err-stage.ensures.1 in
    let full = rw (q.1, q.2) at is in
    subst (λ (x : _ × _). IsPast x.0 x.1) (λ i. (told.rest.0 i, told.op_staged p holds i)) (c.in_err-stage.ensures.full p (told.held_staged p holds) (fault_same c.in_err-stage.field-0.0 nodes.Full full))

pub returns-in_err-op-clause-damaged : goal.returns-in_err-op-clause-damaged
returns-in_err-op-clause-damaged g c p place holds is =
    let q = err_from_is_err_and c.from_residual.result c.from_residual.ensures.1 in
    let damaged = rw (q.1, q.2) at is in
    c.in_err-op.ensures.damaged_staged p place holds (fault_same c.in_err-op.field-0.0 (nodes.Damaged place) damaged)

-- ---- on any disk ----

pub returns-clause-by_index : goal.returns-clause-by_index
returns-clause-by_index g c = does_by_index _ _ _ _ _ _ _ _ _ c.in_ok-op.ensures.by_index c.in_ok-op.ensures.rest.0 c.in_ok-stage.ensures.laid
