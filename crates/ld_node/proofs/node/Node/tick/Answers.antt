use Rattle.std.proofs.Common.{◌≡◌, inl, inr, ⊎_elim, refl, true, Some, sym, ap, subst, ◌∙◌}
use Rattle.std.specs.Result.{is_ok}
use Rattle.ld_ids.specs.Set.{members}
use Rattle.ld_disk.specs.Moments.{LeavesOnly}
use Rattle.ld_disk.specs.Plain.{after_calls, all_succeed}
use Rattle.ld_store.specs.Ops.{StandsForEither}
use Rattle.ld_store.specs.Open.{disk_of as store_disk, layout_of as store_layout, slots_of as store_slots}
use Rattle.ld_node.specs.Changes.{AreChanges, kept, laid_with, slots_kept, calls_of, IsPast}
use Rattle.ld_node.specs.Looks.{op_of, answer_of}
use Rattle.ld_node.specs.Node.{id_of, known_of, disk_of, layout_of, slots_of, index_of, plain_of}
use Rattle.ld_node.specs.declared.fault.NodeFault.TheVariants as nodes
use Rattle.ld_node.proofs.Looks.{ticked_nowhere, op_is, answer_is, no_refusal, passed, passed_back, passed_on, only_failed}
use Rattle.ld_node.proofs.node.Node.tick.Goals as goal

-- ---- a log that the node does not know ----

pub returns-then-not-has_log-clause-answer : goal.returns-then-not-has_log-clause-answer
returns-then-not-has_log-clause-answer g c ct h =
    let node = c.args.self.now in
    sym (ap (answer_of (id_of node) c.args.log (known_of node).nodes) (ticked_nowhere (known_of node) (plain_of node) c.args.log ct (sym c.has_log.ensures.has ∙ c.if-not-has_log.true)))

pub returns-then-not-has_log-clause-kept : goal.returns-then-not-has_log-clause-kept
returns-then-not-has_log-clause-kept g c ct holds h =
    let node = c.args.self.now in
    sym (ap (λ t. kept (op_of c.args.log t) (plain_of node)) (ticked_nowhere (known_of node) (plain_of node) c.args.log ct (sym c.has_log.ensures.has ∙ c.if-not-has_log.true)))

pub returns-then-not-has_log-clause-laid : goal.returns-then-not-has_log-clause-laid
returns-then-not-has_log-clause-laid g c ct h =
    let node = c.args.self.now in
    subst (λ t. (layout_of node ≡ laid_with (layout_of node) (op_of c.args.log t)) × (slots_of node ≡ slots_kept (layout_of node) (slots_of node) (op_of c.args.log t)))
    (sym (ticked_nowhere (known_of node) (plain_of node) c.args.log ct (sym c.has_log.ensures.has ∙ c.if-not-has_log.true))) (refl, refl)

pub returns-then-not-has_log-clause-exact : goal.returns-then-not-has_log-clause-exact
returns-then-not-has_log-clause-exact g c ct disk h told either =
    let D = g.D.Disk in
    let node = c.args.self.now in
    subst (λ t. (D.plain (disk_of node) ≡ Some (after_calls (calls_of (layout_of node) (slots_of node) (op_of c.args.log t)) disk)) × (true ≡ all_succeed (calls_of (layout_of node) (slots_of node) (op_of c.args.log t)) disk))
    (sym (ticked_nowhere (known_of node) (plain_of node) c.args.log ct (sym c.has_log.ensures.has ∙ c.if-not-has_log.true))) (told, refl)

pub returns-then-not-has_log-clause-too_long : goal.returns-then-not-has_log-clause-too_long
returns-then-not-has_log-clause-too_long g c ct h works past =
    let node = c.args.self.now in
    absurd (subst (λ t. IsPast (layout_of node) (op_of c.args.log t)) (ticked_nowhere (known_of node) (plain_of node) c.args.log ct (sym c.has_log.ensures.has ∙ c.if-not-has_log.true)) past)

pub returns-then-not-has_log-clause-change : goal.returns-then-not-has_log-clause-change
returns-then-not-has_log-clause-change g c ct h is =
    let node = c.args.self.now in
    subst (λ t. AreChanges (op_of c.args.log t)) (sym (ticked_nowhere (known_of node) (plain_of node) c.args.log ct (sym c.has_log.ensures.has ∙ c.if-not-has_log.true))) tt

-- ---- an op that was not kept ----

pub returns-in_err-keep-clause-any_moment : goal.returns-in_err-keep-clause-any_moment
returns-in_err-keep-clause-any_moment g c ct holds h =
    let D = g.D.Disk in
    let node = c.args.self.now in
    subst (λ o. LeavesOnly D.moment D.left_since (disk_of node) (store_disk c.keep.new.store) (StandsForEither (plain_of node) (kept o (plain_of node))))
    (op_is (known_of node) (g.D.Disk.seen (disk_of node)) (index_of node) c.index.result.now.state c.args.log ct c.in_ok-step.step.op (sym c.has_log.ensures.has ∙ c.if-not-has_log.false) c.index.ensures.state (c.in_ok-step.ensures.step ct h).op)
    (c.in_err-keep.ensures.any_moment holds)

pub returns-in_err-keep-clause-exact : goal.returns-in_err-keep-clause-exact
returns-in_err-keep-clause-exact g c ct disk h told either =
    let D = g.D.Disk in
    let node = c.args.self.now in
    let r = c.from_residual-in_err-keep.result in
    let fault = c.in_err-keep.field-0.0 in
    let is = passed fault r c.from_residual-in_err-keep.ensures in
    let exact = c.in_err-keep.ensures.exact disk told (only_failed fault r nodes.Disk is either) in
    subst (λ o. (D.plain (store_disk c.keep.new.store) ≡ Some (after_calls (calls_of (layout_of node) (slots_of node) o) disk)) × (is_ok r ≡ all_succeed (calls_of (layout_of node) (slots_of node) o) disk))
    (op_is (known_of node) (g.D.Disk.seen (disk_of node)) (index_of node) c.index.result.now.state c.args.log ct c.in_ok-step.step.op (sym c.has_log.ensures.has ∙ c.if-not-has_log.false) c.index.ensures.state (c.in_ok-step.ensures.step ct h).op)
    (exact.0, ap is_ok is ∙ exact.1)

pub returns-in_err-keep-clause-full : goal.returns-in_err-keep-clause-full
returns-in_err-keep-clause-full g c ct holds h is =
    let node = c.args.self.now in
    let r = c.from_residual-in_err-keep.result in
    let fault = c.in_err-keep.field-0.0 in
    subst (λ o. IsPast (layout_of node) o)
    (op_is (known_of node) (g.D.Disk.seen (disk_of node)) (index_of node) c.index.result.now.state c.args.log ct c.in_ok-step.step.op (sym c.has_log.ensures.has ∙ c.if-not-has_log.false) c.index.ensures.state (c.in_ok-step.ensures.step ct h).op)
    (c.in_err-keep.ensures.full holds (passed_back fault r nodes.Full (passed fault r c.from_residual-in_err-keep.ensures) is))

pub returns-in_err-keep-clause-too_long : goal.returns-in_err-keep-clause-too_long
returns-in_err-keep-clause-too_long g c ct h works past =
    let node = c.args.self.now in
    let r = c.from_residual-in_err-keep.result in
    let fault = c.in_err-keep.field-0.0 in
    let is = passed fault r c.from_residual-in_err-keep.ensures in
    let o = op_is (known_of node) (g.D.Disk.seen (disk_of node)) (index_of node) c.index.result.now.state c.args.log ct c.in_ok-step.step.op (sym c.has_log.ensures.has ∙ c.if-not-has_log.false) c.index.ensures.state (c.in_ok-step.ensures.step ct h).op in
    ⊎_elim (λ e. inl (passed_on fault r nodes.Full is e)) (λ e. inr (inl (passed_on fault r nodes.NoMemory is e))) (c.in_err-keep.ensures.too_long (subst (λ o. IsPast (layout_of node) o) (sym o) past))

pub returns-in_err-keep-clause-change : goal.returns-in_err-keep-clause-change
returns-in_err-keep-clause-change g c ct h is =
    let node = c.args.self.now in
    subst (λ o. AreChanges o)
    (op_is (known_of node) (g.D.Disk.seen (disk_of node)) (index_of node) c.index.result.now.state c.args.log ct c.in_ok-step.step.op (sym c.has_log.ensures.has ∙ c.if-not-has_log.false) c.index.ensures.state (c.in_ok-step.ensures.step ct h).op)
    c.in_ok-step.ensures.change

pub returns-in_err-keep-clause-silent : goal.returns-in_err-keep-clause-silent
returns-in_err-keep-clause-silent g c ct h none =
    let node = c.args.self.now in
    let same = c.in_err-keep.ensures.none_kept
    (op_is (known_of node) (g.D.Disk.seen (disk_of node)) (index_of node) c.index.result.now.state c.args.log ct c.in_ok-step.step.op (sym c.has_log.ensures.has ∙ c.if-not-has_log.false) c.index.ensures.state (c.in_ok-step.ensures.step ct h).op ∙ none) in
    (ap store_disk same, ap store_layout same, ap store_slots same)

pub returns-in_err-keep-clause-silent_works : goal.returns-in_err-keep-clause-silent_works
returns-in_err-keep-clause-silent_works g c ct h none =
    let node = c.args.self.now in
    absurd (cc (c.in_err-keep.ensures.none
    (op_is (known_of node) (g.D.Disk.seen (disk_of node)) (index_of node) c.index.result.now.state c.args.log ct c.in_ok-step.step.op (sym c.has_log.ensures.has ∙ c.if-not-has_log.false) c.index.ensures.state (c.in_ok-step.ensures.step ct h).op ∙ none)))

-- ---- an op that is kept ----

pub returns-clause-answer : goal.returns-clause-answer
returns-clause-answer g c ct h =
    let node = c.args.self.now in
    answer_is (id_of node) (known_of node) (g.D.Disk.seen (disk_of node)) (index_of node) c.index.result.now.state c.args.log ct (members c.nodes.result.now) c.in_ok-step.step.ticked (sym c.has_log.ensures.has ∙ c.if-not-has_log.false) c.nodes.ensures c.index.ensures.state (c.in_ok-step.ensures.step ct h).answer

pub returns-clause-kept : goal.returns-clause-kept
returns-clause-kept g c ct holds h =
    let node = c.args.self.now in
    c.in_ok-keep.ensures.applied holds ∙ ap (λ o. kept o (plain_of node)) (op_is (known_of node) (g.D.Disk.seen (disk_of node)) (index_of node) c.index.result.now.state c.args.log ct c.in_ok-step.step.op (sym c.has_log.ensures.has ∙ c.if-not-has_log.false) c.index.ensures.state (c.in_ok-step.ensures.step ct h).op)

pub returns-clause-laid : goal.returns-clause-laid
returns-clause-laid g c ct h =
    let node = c.args.self.now in
    subst (λ o. (store_layout c.keep.new.store ≡ laid_with (layout_of node) o) × (store_slots c.keep.new.store ≡ slots_kept (layout_of node) (slots_of node) o))
    (op_is (known_of node) (g.D.Disk.seen (disk_of node)) (index_of node) c.index.result.now.state c.args.log ct c.in_ok-step.step.op (sym c.has_log.ensures.has ∙ c.if-not-has_log.false) c.index.ensures.state (c.in_ok-step.ensures.step ct h).op) c.in_ok-keep.ensures.laid

pub returns-clause-any_moment : goal.returns-clause-any_moment
returns-clause-any_moment g c ct holds h =
    let D = g.D.Disk in
    let node = c.args.self.now in
    subst (λ o. LeavesOnly D.moment D.left_since (disk_of node) (store_disk c.keep.new.store) (StandsForEither (plain_of node) (kept o (plain_of node))))
    (op_is (known_of node) (g.D.Disk.seen (disk_of node)) (index_of node) c.index.result.now.state c.args.log ct c.in_ok-step.step.op (sym c.has_log.ensures.has ∙ c.if-not-has_log.false) c.index.ensures.state (c.in_ok-step.ensures.step ct h).op)
    (c.in_ok-keep.ensures.any_moment holds)

pub returns-clause-exact : goal.returns-clause-exact
returns-clause-exact g c ct disk h told either =
    let D = g.D.Disk in
    let node = c.args.self.now in
    subst (λ o. (D.plain (store_disk c.keep.new.store) ≡ Some (after_calls (calls_of (layout_of node) (slots_of node) o) disk)) × (true ≡ all_succeed (calls_of (layout_of node) (slots_of node) o) disk))
    (op_is (known_of node) (g.D.Disk.seen (disk_of node)) (index_of node) c.index.result.now.state c.args.log ct c.in_ok-step.step.op (sym c.has_log.ensures.has ∙ c.if-not-has_log.false) c.index.ensures.state (c.in_ok-step.ensures.step ct h).op)
    (c.in_ok-keep.ensures.exact disk told (inl refl))

pub returns-clause-too_long : goal.returns-clause-too_long
returns-clause-too_long g c ct h works past =
    let node = c.args.self.now in
    let o = op_is (known_of node) (g.D.Disk.seen (disk_of node)) (index_of node) c.index.result.now.state c.args.log ct c.in_ok-step.step.op (sym c.has_log.ensures.has ∙ c.if-not-has_log.false) c.index.ensures.state (c.in_ok-step.ensures.step ct h).op in
    absurd (⊎_elim (λ e. no_refusal c.in_ok-keep.field-0 nodes.Full e) (λ e. no_refusal c.in_ok-keep.field-0 nodes.NoMemory e) (c.in_ok-keep.ensures.too_long (subst (λ o. IsPast (layout_of node) o) (sym o) past)))

pub returns-clause-change : goal.returns-clause-change
returns-clause-change g c ct h is =
    let node = c.args.self.now in
    subst (λ o. AreChanges o)
    (op_is (known_of node) (g.D.Disk.seen (disk_of node)) (index_of node) c.index.result.now.state c.args.log ct c.in_ok-step.step.op (sym c.has_log.ensures.has ∙ c.if-not-has_log.false) c.index.ensures.state (c.in_ok-step.ensures.step ct h).op)
    c.in_ok-step.ensures.change

pub returns-clause-silent : goal.returns-clause-silent
returns-clause-silent g c ct h none =
    let node = c.args.self.now in
    let same = c.in_ok-keep.ensures.none_kept
    (op_is (known_of node) (g.D.Disk.seen (disk_of node)) (index_of node) c.index.result.now.state c.args.log ct c.in_ok-step.step.op (sym c.has_log.ensures.has ∙ c.if-not-has_log.false) c.index.ensures.state (c.in_ok-step.ensures.step ct h).op ∙ none) in
    (ap store_disk same, ap store_layout same, ap store_slots same)
