use Rattle.std.proofs.Common.{◌≡◌, inl, inr, ⊎_elim, refl, true, Some, sym, ap, subst, ◌∙◌}
use Rattle.ld_disk.specs.Moments.{LeavesOnly, Unchanged}
use Rattle.ld_disk.specs.Plain.{after_calls, all_succeed}
use Rattle.ld_disk.proofs.Runs.{begins_on}
use Rattle.ld_store.specs.Ops.{StandsForEither}
use Rattle.ld_store.specs.Open.{disk_of as store_disk, layout_of as store_layout, slots_of as store_slots}
use Rattle.ld_node.specs.Changes.{kept, laid_with, slots_kept, calls_of, IsPast}
use Rattle.ld_node.specs.Node.{disk_of}
use Rattle.ld_node.specs.declared.fault.NodeFault.TheVariants as nodes
use Rattle.std.proofs.lemmas.Result.{err_from_is_err_and}
use Rattle.ld_node.proofs.Calls.{unchanged_too}
use Rattle.ld_node.proofs.Draws.{refused, error_is}
use Rattle.ld_node.proofs.Quiet.{none_raised, on_err}
use Rattle.ld_node.proofs.Looks.{no_refusal}
use Rattle.ld_node.proofs.ByIndex.{does_by_index}
use Rattle.ld_node.proofs.node.Node.on_msg.Goals as goal

-- ---- an op that is kept ----

pub returns-clause-kept : goal.returns-clause-kept
returns-clause-kept g c holds =
    c.in_ok-keep.ensures.applied (c.in_ok-op.ensures.held holds) ∙ (λ i. kept (c.in_ok-op.ensures.op holds i) (c.in_ok-op.ensures.plain i))

pub returns-clause-laid : goal.returns-clause-laid
returns-clause-laid g c holds =
    let told = c.in_ok-op.ensures in
    let laid = c.in_ok-keep.ensures.laid in
    (laid.0 ∙ (λ i. laid_with (told.rest.0 i) (told.op holds i)), laid.1 ∙ (λ i. slots_kept (told.rest.0 i) (told.rest.1 i) (told.op holds i)))

pub returns-clause-any_moment : goal.returns-clause-any_moment
returns-clause-any_moment g c holds =
    let D = g.D.Disk in
    let node = c.args.self.now in
    let told = c.in_ok-op.ensures in
    begins_on D.moment D.left_since D.seen D.may_leave (disk_of node) (store_disk c.prepare.new.store) (store_disk c.keep.new.store) _ told.same
    (subst (λ (x : _ × _). LeavesOnly D.moment D.left_since (store_disk c.prepare.new.store) (store_disk c.keep.new.store) (StandsForEither x.0 (kept x.1 x.0))) (λ i. (told.plain i, told.op holds i)) (c.in_ok-keep.ensures.any_moment (told.held holds)))

pub returns-clause-exact : goal.returns-clause-exact
returns-clause-exact g c p holds is fine either =
    let D = g.D.Disk in
    let node = c.args.self.now in
    let told = c.in_ok-op.ensures in
    let exact = c.in_ok-keep.ensures.exact p (told.exact p is fine).0 (inl refl) in
    subst (λ (x : _ × _ × _). (D.plain (store_disk c.keep.new.store) ≡ Some (after_calls (calls_of x.0 x.1 x.2) p)) × (true ≡ all_succeed (calls_of x.0 x.1 x.2) p)) (λ i. (told.rest.0 i, told.rest.1 i, told.op holds i)) exact

pub returns-clause-silent : goal.returns-clause-silent
returns-clause-silent g c holds none =
    let D = g.D.Disk in
    let node = c.args.self.now in
    let told = c.in_ok-op.ensures in
    let same = c.in_ok-keep.ensures.none_kept (told.op holds ∙ none) in
    (subst (λ s. Unchanged D.seen D.may_leave D.moment D.left_since (disk_of node) (store_disk s)) (sym same) told.same, ap store_layout same ∙ told.rest.0, ap store_slots same ∙ told.rest.1)

pub returns-clause-too_long : goal.returns-clause-too_long
returns-clause-too_long g c p holds is fine past =
    let told = c.in_ok-op.ensures in
    absurd (⊎_elim (λ e. no_refusal c.in_ok-keep.field-0 nodes.Full e) (λ e. no_refusal c.in_ok-keep.field-0 nodes.NoMemory e)
    (c.in_ok-keep.ensures.too_long (subst (λ (x : _ × _). IsPast x.0 x.1) (λ i. (sym told.rest.0 i, sym (told.op holds) i)) past)))

pub returns-clause-too_long_or_failed : goal.returns-clause-too_long_or_failed
returns-clause-too_long_or_failed g c holds past =
    let told = c.in_ok-op.ensures in
    absurd (⊎_elim (λ e. no_refusal c.in_ok-keep.field-0 nodes.Full e) (λ e. no_refusal c.in_ok-keep.field-0 nodes.NoMemory e)
    (c.in_ok-keep.ensures.too_long (subst (λ (x : _ × _). IsPast x.0 x.1) (λ i. (sym told.rest.0 i, sym (told.op holds) i)) past)))

-- ---- an op that is not kept ----

pub returns-in_err-keep-clause-refused : goal.returns-in_err-keep-clause-refused
returns-in_err-keep-clause-refused g c =
    let node = c.args.self.now in
    let m = c.args.msg.now in
    let told = c.in_ok-op.ensures in
    let silent_release = none_raised node.released.entries m.log c.released_by-number.result (λ y number. absurd (cc (c.in_err-keep.ensures.none (told.released y (sym c.released_by-number.ensures ∙ number))))) in
    on_err c.from_residual-in_err-keep.result _ (c.in_err-keep.ensures.refused.0 ∙ told.rest.2, c.in_err-keep.ensures.refused.1 ∙ told.rest.0, c.in_err-keep.ensures.refused.2 ∙ told.rest.1, c.in_ok-release.ensures.ok ∙ silent_release)

pub returns-in_err-keep-clause-any_moment : goal.returns-in_err-keep-clause-any_moment
returns-in_err-keep-clause-any_moment g c holds =
    let D = g.D.Disk in
    let node = c.args.self.now in
    let told = c.in_ok-op.ensures in
    begins_on D.moment D.left_since D.seen D.may_leave (disk_of node) (store_disk c.prepare.new.store) (store_disk c.keep.new.store) _ told.same
    (subst (λ (x : _ × _). LeavesOnly D.moment D.left_since (store_disk c.prepare.new.store) (store_disk c.keep.new.store) (StandsForEither x.0 (kept x.1 x.0))) (λ i. (told.plain i, told.op holds i)) (c.in_err-keep.ensures.any_moment (told.held holds)))

pub returns-in_err-keep-clause-stays : goal.returns-in_err-keep-clause-stays
returns-in_err-keep-clause-stays g c =
    let D = g.D.Disk in
    let p = err_from_is_err_and c.from_residual-in_err-keep.result c.from_residual-in_err-keep.ensures.1 in
    let fault = c.in_err-keep.field-0.0 in
    rw (p.1, p.2) (⊎_elim (λ e. inl (ap refused (error_is fault nodes.Disk e)))
    (λ same. inr (unchanged_too D.seen D.may_leave D.moment D.left_since (disk_of c.args.self.now) (store_disk c.prepare.new.store) (store_disk c.keep.new.store) c.in_ok-op.ensures.same same)) c.in_err-keep.ensures.stays)

-- ---- on any disk ----

pub returns-clause-by_index : goal.returns-clause-by_index
returns-clause-by_index g c = does_by_index _ _ _ _ _ _ _ _ _ c.in_ok-op.ensures.by_index c.in_ok-op.ensures.rest.0 c.in_ok-keep.ensures.laid.0
