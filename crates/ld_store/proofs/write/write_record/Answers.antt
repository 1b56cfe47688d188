use Rattle.std.proofs.Common.{◌≡◌, inl, length, is_ok, is_some, true, ◌∙◌, ap, subst, arith}
use Rattle.std.specs.Prelude.{IfSome}
use Rattle.ld_layout.specs.LaidOut.{segment_of, recorded}
use Rattle.ld_layout.specs.Layout.{switches}
use Rattle.ld_segment.specs.Lies.{segment_for}
use Rattle.ld_segment.specs.Plans.{seen_plan}
use Rattle.ld_store.specs.Laid.{layout_in, slots_in, placed_in}
use Rattle.ld_store.proofs.Writing.{goes_low, ops_low, rests_too, row_rests, row_leaves, row_exact, not_ok}
use Rattle.ld_store.proofs.write.write_record.Goals as goal

pub returns-in_err-write_op-clause-any_moment : goal.returns-in_err-write_op-clause-any_moment
returns-in_err-write_op-clause-any_moment g c b rests =
    let D = g.D.Disk in
    let y = layout_in c.args.laid.now c.args.index.now.state in
    let z = slots_in c.args.laid.now in
    let same = c.in_ok-reserve.ensures.same in
    inl (row_leaves D.seen D.may_leave D.moment D.left_since c.args.kind y z c.args.body.items (seen_plan c.in_ok-plan.plan) c.in_ok-plan.ensures.plan c.args.disk.now c.reserve.new.self c.write_op.new.disk b same
    (c.in_err-write_op.ensures.any_moment b (rests_too D.seen D.may_leave D.moment D.left_since c.args.disk.now c.reserve.new.self b same rests)))

pub returns-in_err-write_op-clause-exact : goal.returns-in_err-write_op-clause-exact
returns-in_err-write_op-clause-exact g c p told either =
    let D = g.D.Disk in
    let y = layout_in c.args.laid.now c.args.index.now.state in
    let z = slots_in c.args.laid.now in
    row_exact c.args.kind y z c.args.body.items (seen_plan c.in_ok-plan.plan) c.in_ok-plan.ensures.plan (D.plain c.write_op.new.disk) (is_ok c.from_residual-in_err-write_op.result) p
    (let exact = c.in_err-write_op.ensures.exact p (c.in_ok-reserve.ensures.exact ∙ told) in (exact.0, not_ok c.from_residual-in_err-write_op.result c.from_residual-in_err-write_op.ensures.0 ∙ exact.1))

pub returns-clause-laid : goal.returns-clause-laid
returns-clause-laid g c =
    let index = c.args.index.now.state in
    let y = layout_in c.args.laid.now index in
    let size = length c.args.body.items in
    let lies = subst (λ l. is_some c.in_ok-plan.next ≡ switches (layout_in l index) size → IfSome c.in_ok-plan.next (λ g. segment_of g ≡ segment_for (layout_in l index) size) → layout_in c.switched-switched.result index ≡ placed_in (layout_in l index) size)
    c.replace-old.ensures.value (c.switched-switched.ensures.layout index size) c.in_ok-plan.ensures.stays c.in_ok-plan.ensures.next in
    let long : c.len-size.result ≡ size = omega (arith, c.len-size.ensures) in
    (c.switched-switched.result, lies, c.with_record.ensures.layout ∙ ap (λ n. recorded c.switched-switched.result.layout n c.args.is_op) long, c.gate-gate.ensures)

pub with_record-requires-clause-end : goal.with_record-requires-clause-end
with_record-requires-clause-end g c =
    let index = c.args.index.now.state in
    let y = layout_in c.args.laid.now index in
    let size = length c.args.body.items in
    let lies = subst (λ l. is_some c.in_ok-plan.next ≡ switches (layout_in l index) size → IfSome c.in_ok-plan.next (λ g. segment_of g ≡ segment_for (layout_in l index) size) → layout_in c.switched-switched.result index ≡ placed_in (layout_in l index) size)
    c.replace-old.ensures.value (c.switched-switched.ensures.layout index size) c.in_ok-plan.ensures.stays c.in_ok-plan.ensures.next in
    let low = goes_low c.args.kind y (slots_in c.args.laid.now) c.args.body.items c.switched-switched.result index (seen_plan c.in_ok-plan.plan) lies c.in_ok-plan.ensures.plan c.in_ok-plan.ensures.end in
    omega (arith, low, c.len-size.ensures)

pub with_record-requires-clause-ops : goal.with_record-requires-clause-ops
with_record-requires-clause-ops g c =
    let index = c.args.index.now.state in
    let y = layout_in c.args.laid.now index in
    let size = length c.args.body.items in
    let lies = subst (λ l. is_some c.in_ok-plan.next ≡ switches (layout_in l index) size → IfSome c.in_ok-plan.next (λ g. segment_of g ≡ segment_for (layout_in l index) size) → layout_in c.switched-switched.result index ≡ placed_in (layout_in l index) size)
    c.replace-old.ensures.value (c.switched-switched.ensures.layout index size) c.in_ok-plan.ensures.stays c.in_ok-plan.ensures.next in
    ops_low c.switched-switched.result index y size c.full_ops.result lies c.full_ops.ensures c.full_ops.type_inv

pub returns-clause-low : goal.returns-clause-low
returns-clause-low g c =
    let index = c.args.index.now.state in
    let y = layout_in c.args.laid.now index in
    let size = length c.args.body.items in
    let lies = subst (λ l. is_some c.in_ok-plan.next ≡ switches (layout_in l index) size → IfSome c.in_ok-plan.next (λ g. segment_of g ≡ segment_for (layout_in l index) size) → layout_in c.switched-switched.result index ≡ placed_in (layout_in l index) size)
    c.replace-old.ensures.value (c.switched-switched.ensures.layout index size) c.in_ok-plan.ensures.stays c.in_ok-plan.ensures.next in
    let low = goes_low c.args.kind y (slots_in c.args.laid.now) c.args.body.items c.switched-switched.result index (seen_plan c.in_ok-plan.plan) lies c.in_ok-plan.ensures.plan c.in_ok-plan.ensures.end in
    omega (arith, low, c.gate-gate.ensures)

pub returns-clause-rests : goal.returns-clause-rests
returns-clause-rests g c b rests =
    let D = g.D.Disk in
    let y = layout_in c.args.laid.now c.args.index.now.state in
    let z = slots_in c.args.laid.now in
    row_rests D.seen D.may_leave D.moment D.left_since c.args.kind y z c.args.body.items (seen_plan c.in_ok-plan.plan) c.in_ok-plan.ensures.plan c.write_op.new.disk b
    (c.in_ok-write_op.ensures.rests b (rests_too D.seen D.may_leave D.moment D.left_since c.args.disk.now c.reserve.new.self b c.in_ok-reserve.ensures.same rests))

pub returns-clause-any_moment : goal.returns-clause-any_moment
returns-clause-any_moment g c b rests =
    let D = g.D.Disk in
    let y = layout_in c.args.laid.now c.args.index.now.state in
    let z = slots_in c.args.laid.now in
    let same = c.in_ok-reserve.ensures.same in
    inl (row_leaves D.seen D.may_leave D.moment D.left_since c.args.kind y z c.args.body.items (seen_plan c.in_ok-plan.plan) c.in_ok-plan.ensures.plan c.args.disk.now c.reserve.new.self c.write_op.new.disk b same
    (c.in_ok-write_op.ensures.any_moment b (rests_too D.seen D.may_leave D.moment D.left_since c.args.disk.now c.reserve.new.self b same rests)))

pub returns-clause-exact : goal.returns-clause-exact
returns-clause-exact g c p told either =
    let D = g.D.Disk in
    let y = layout_in c.args.laid.now c.args.index.now.state in
    let z = slots_in c.args.laid.now in
    row_exact c.args.kind y z c.args.body.items (seen_plan c.in_ok-plan.plan) c.in_ok-plan.ensures.plan (D.plain c.write_op.new.disk) true p
    (c.in_ok-write_op.ensures.exact p (c.in_ok-reserve.ensures.exact ∙ told))
