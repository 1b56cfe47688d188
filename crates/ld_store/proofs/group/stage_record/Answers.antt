use Rattle.std.proofs.Common.{◌≡◌, inl, length, is_some, true, ◌∙◌, sym, ap, subst, arith}
use Rattle.std.specs.Prelude.{IfSome}
use Rattle.ld_disk.specs.Moments.{LeavesOnly}
use Rattle.ld_disk.proofs.Runs.{begins_on}
use Rattle.ld_op.specs.Plain.{op_length}
use Rattle.ld_op.specs.Bytes.{op_bytes}
use Rattle.ld_layout.specs.LaidOut.{segment_of, recorded}
use Rattle.ld_layout.specs.Layout.{switches, kind_of}
use Rattle.ld_segment.specs.Lies.{StandsForEither, segment_for, gate_in}
use Rattle.ld_segment.specs.Plans.{seen_plan, planned}
use Rattle.ld_store.specs.Laid.{layout_in, slots_in, placed_in}
use Rattle.ld_store.specs.Group.{told_plain, first_in, IsGroupWith}
use Rattle.ld_store.proofs.Writing.{behind_is, gate_is, goes_low, ops_low}
use Rattle.ld_store.proofs.Applying.{body_long}
use Rattle.ld_store.proofs.Staging.{plan_as, full_as, first_low, group_too, with_from}
use Rattle.ld_store.proofs.group.stage_record.Goals as goal

pub returns-in_err-write_staged-clause-any_moment : goal.returns-in_err-write_staged-clause-any_moment
returns-in_err-write_staged-clause-any_moment g c p o is may group =
    let D = g.D.Disk in
    let index = c.args.index.now.state in
    let y = layout_in c.args.laid.now index in
    let z = slots_in c.args.laid.now in
    let old = c.args.disk.now in
    let mid = c.reserve.new.self in
    let same = c.in_ok-reserve.ensures.same in
    let there = group_too D.seen D.may_leave old mid c.args.staged p y z same.bytes same.crash group in
    let plan : seen_plan c.in_ok-plan.plan ≡ planned (kind_of y) y z (op_bytes o) = plan_as (seen_plan c.in_ok-plan.plan) y z c.args.body.items o c.in_ok-plan.ensures.plan is in
    let full : c.is_some-is_full.result ≡ switches y (op_length o) = full_as c.is_some-is_full.result (is_some c.in_ok-plan.next) y (length c.args.body.items) o c.is_some-is_full.ensures c.in_ok-plan.ensures.stays (body_long o c.args.body.items is) in
    inl (begins_on D.moment D.left_since D.seen D.may_leave old mid c.write_staged.new.disk (StandsForEither p (told_plain (D.seen old) index)) same
    (subst (λ t. LeavesOnly D.moment D.left_since mid c.write_staged.new.disk (StandsForEither p (told_plain t index))) same.bytes (c.write_staged.ensures.any_moment p y z o there may plan full)))

pub returns-clause-any_moment : goal.returns-clause-any_moment
returns-clause-any_moment g c p o is may group =
    let D = g.D.Disk in
    let index = c.args.index.now.state in
    let y = layout_in c.args.laid.now index in
    let z = slots_in c.args.laid.now in
    let old = c.args.disk.now in
    let mid = c.reserve.new.self in
    let same = c.in_ok-reserve.ensures.same in
    let there = group_too D.seen D.may_leave old mid c.args.staged p y z same.bytes same.crash group in
    let plan : seen_plan c.in_ok-plan.plan ≡ planned (kind_of y) y z (op_bytes o) = plan_as (seen_plan c.in_ok-plan.plan) y z c.args.body.items o c.in_ok-plan.ensures.plan is in
    let full : c.is_some-is_full.result ≡ switches y (op_length o) = full_as c.is_some-is_full.result (is_some c.in_ok-plan.next) y (length c.args.body.items) o c.is_some-is_full.ensures c.in_ok-plan.ensures.stays (body_long o c.args.body.items is) in
    inl (begins_on D.moment D.left_since D.seen D.may_leave old mid c.write_staged.new.disk (StandsForEither p (told_plain (D.seen old) index)) same
    (subst (λ t. LeavesOnly D.moment D.left_since mid c.write_staged.new.disk (StandsForEither p (told_plain t index))) same.bytes (c.write_staged.ensures.any_moment p y z o there may plan full)))

pub returns-clause-staged : goal.returns-clause-staged
returns-clause-staged g c p o is may group =
    let D = g.D.Disk in
    let index = c.args.index.now.state in
    let y = layout_in c.args.laid.now index in
    let z = slots_in c.args.laid.now in
    let old = c.args.disk.now in
    let mid = c.reserve.new.self in
    let same = c.in_ok-reserve.ensures.same in
    let there = group_too D.seen D.may_leave old mid c.args.staged p y z same.bytes same.crash group in
    let plan : seen_plan c.in_ok-plan.plan ≡ planned (kind_of y) y z (op_bytes o) = plan_as (seen_plan c.in_ok-plan.plan) y z c.args.body.items o c.in_ok-plan.ensures.plan is in
    let full : c.is_some-is_full.result ≡ switches y (op_length o) = full_as c.is_some-is_full.result (is_some c.in_ok-plan.next) y (length c.args.body.items) o c.is_some-is_full.ensures c.in_ok-plan.ensures.stays (body_long o c.args.body.items is) in
    let size = length c.args.body.items in
    let lies = subst (λ l. is_some c.in_ok-plan.next ≡ switches (layout_in l index) size → IfSome c.in_ok-plan.next (λ g. segment_of g ≡ segment_for (layout_in l index) size) → layout_in c.switched-switched.result index ≡ placed_in (layout_in l index) size)
    c.replace-old.ensures.value (c.switched-switched.ensures.layout index size) c.in_ok-plan.ensures.stays c.in_ok-plan.ensures.next in
    let gate : c.gate-gate.result ≡ (seen_plan c.in_ok-plan.plan).gate =
    c.gate-gate.ensures ∙ behind_is c.switched-switched.result.layout index ∙ ap (λ l. gate_in l l.later) lies ∙ gate_is (kind_of y) y z c.args.body.items ∙ sym (ap (λ a. a.gate) c.in_ok-plan.ensures.plan) in
    let first : c.first_gate.result ≡ first_in c.args.staged c.is_some-is_full.result (seen_plan c.in_ok-plan.plan).gate = c.first_gate.ensures ∙ ap (first_in c.args.staged c.is_some-is_full.result) gate in
    subst (λ k. IsGroupWith D.seen D.may_leave old c.write_staged.new.disk k p y z o) (sym first)
    (with_from D.seen D.may_leave old mid c.write_staged.new.disk (first_in c.args.staged c.is_some-is_full.result (seen_plan c.in_ok-plan.plan).gate) p y z o same.bytes (c.in_ok-write_staged.ensures.staged p y z o there may plan full))

pub returns-clause-laid : goal.returns-clause-laid
returns-clause-laid g c =
    let index = c.args.index.now.state in
    let y = layout_in c.args.laid.now index in
    let size = length c.args.body.items in
    let lies = subst (λ l. is_some c.in_ok-plan.next ≡ switches (layout_in l index) size → IfSome c.in_ok-plan.next (λ g. segment_of g ≡ segment_for (layout_in l index) size) → layout_in c.switched-switched.result index ≡ placed_in (layout_in l index) size)
    c.replace-old.ensures.value (c.switched-switched.ensures.layout index size) c.in_ok-plan.ensures.stays c.in_ok-plan.ensures.next in
    let long : c.len-size.result ≡ size = omega (arith, c.len-size.ensures) in
    (c.switched-switched.result, lies, c.with_record.ensures.layout ∙ ap (λ n. recorded c.switched-switched.result.layout n true) long, c.gate-gate.ensures)

pub with_record-requires-clause-end : goal.with_record-requires-clause-end
with_record-requires-clause-end g c =
    let index = c.args.index.now.state in
    let y = layout_in c.args.laid.now index in
    let size = length c.args.body.items in
    let lies = subst (λ l. is_some c.in_ok-plan.next ≡ switches (layout_in l index) size → IfSome c.in_ok-plan.next (λ g. segment_of g ≡ segment_for (layout_in l index) size) → layout_in c.switched-switched.result index ≡ placed_in (layout_in l index) size)
    c.replace-old.ensures.value (c.switched-switched.ensures.layout index size) c.in_ok-plan.ensures.stays c.in_ok-plan.ensures.next in
    let low = goes_low (kind_of y) y (slots_in c.args.laid.now) c.args.body.items c.switched-switched.result index (seen_plan c.in_ok-plan.plan) lies c.in_ok-plan.ensures.plan c.in_ok-plan.ensures.end in
    omega (arith, low, c.len-size.ensures)

pub with_record-requires-clause-ops : goal.with_record-requires-clause-ops
with_record-requires-clause-ops g c =
    let index = c.args.index.now.state in
    let y = layout_in c.args.laid.now index in
    let size = length c.args.body.items in
    let lies = subst (λ l. is_some c.in_ok-plan.next ≡ switches (layout_in l index) size → IfSome c.in_ok-plan.next (λ g. segment_of g ≡ segment_for (layout_in l index) size) → layout_in c.switched-switched.result index ≡ placed_in (layout_in l index) size)
    c.replace-old.ensures.value (c.switched-switched.ensures.layout index size) c.in_ok-plan.ensures.stays c.in_ok-plan.ensures.next in
    ops_low c.switched-switched.result index y size c.full_ops.result lies c.full_ops.ensures c.full_ops.type_inv

pub returns-clause-low : goal.returns-clause-low
returns-clause-low g c =
    let index = c.args.index.now.state in
    let y = layout_in c.args.laid.now index in
    let size = length c.args.body.items in
    let lies = subst (λ l. is_some c.in_ok-plan.next ≡ switches (layout_in l index) size → IfSome c.in_ok-plan.next (λ g. segment_of g ≡ segment_for (layout_in l index) size) → layout_in c.switched-switched.result index ≡ placed_in (layout_in l index) size)
    c.replace-old.ensures.value (c.switched-switched.ensures.layout index size) c.in_ok-plan.ensures.stays c.in_ok-plan.ensures.next in
    let low = goes_low (kind_of y) y (slots_in c.args.laid.now) c.args.body.items c.switched-switched.result index (seen_plan c.in_ok-plan.plan) lies c.in_ok-plan.ensures.plan c.in_ok-plan.ensures.end in
    omega (arith, low, c.gate-gate.ensures)

pub returns-clause-first_low : goal.returns-clause-first_low
returns-clause-first_low g c =
    let index = c.args.index.now.state in
    let y = layout_in c.args.laid.now index in
    let size = length c.args.body.items in
    let lies = subst (λ l. is_some c.in_ok-plan.next ≡ switches (layout_in l index) size → IfSome c.in_ok-plan.next (λ g. segment_of g ≡ segment_for (layout_in l index) size) → layout_in c.switched-switched.result index ≡ placed_in (layout_in l index) size)
    c.replace-old.ensures.value (c.switched-switched.ensures.layout index size) c.in_ok-plan.ensures.stays c.in_ok-plan.ensures.next in
    let low = goes_low (kind_of y) y (slots_in c.args.laid.now) c.args.body.items c.switched-switched.result index (seen_plan c.in_ok-plan.plan) lies c.in_ok-plan.ensures.plan c.in_ok-plan.ensures.end in
    omega (arith, c.first_gate.ensures, first_low c.args.staged c.is_some-is_full.result c.gate-gate.result c.requires.low (omega (arith, low, c.gate-gate.ensures)))
