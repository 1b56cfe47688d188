use Rattle.std.proofs.Common.{◌≡◌, inl, inr, is_ok, List, ℕ, Some, ◌∙◌, subst}
use Rattle.ld_disk.specs.Moments.{LeavesOnly}
use Rattle.ld_disk.specs.Plain.{after_calls, all_succeed}
use Rattle.ld_journal.specs.Format.{append_calls}
use Rattle.ld_segment.specs.Left.{IsRecordTorn}
use Rattle.ld_segment.specs.Plans.{seen_plan, seen_switch, calls_before, made_before, IsBeforeTorn, IsPlanTorn}
use Rattle.ld_segment.proofs.Lists.{two_lists, cut_list, not_ok}
use Rattle.ld_segment.proofs.Steps as steps
use Rattle.ld_segment.proofs.write.write_op.Goals as goal

pub returns-in_err-make_switch-clause-exact : goal.returns-in_err-make_switch-clause-exact
returns-in_err-make_switch-clause-exact g c p told =
    let plan = c.args.plan.now in
    let none = not_ok c.from_residual.result c.from_residual.ensures.0 in
    cut_list (calls_before (seen_switch plan.switch)) (append_calls plan.gate plan.body.items) p _ (is_ok c.from_residual.result) none
    (let exact = c.in_err-make_switch.ensures.exact p told in (exact.0, none ∙ exact.1))

pub returns-clause-any_moment : goal.returns-clause-any_moment
returns-clause-any_moment g c b rests =
    let D = g.D.Disk in
    let plan = c.args.plan.now in
    let made = made_before (seen_switch plan.switch) b in
    let second = subst (λ (l : List ℕ). LeavesOnly D.moment D.left_since c.make_switch.new.disk c.append_record.new.disk (IsRecordTorn plan.gate l made)) c.deref.ensures.value
    (c.append_record.ensures.any_moment made (c.in_ok-make_switch.ensures.rests b rests)) in
    steps.then_on D.seen D.may_leave D.moment D.left_since c.args.disk.now c.make_switch.new.disk c.append_record.new.disk (IsBeforeTorn (seen_switch plan.switch) b) (IsRecordTorn plan.gate plan.body.items made) (IsPlanTorn (seen_plan plan) b)
    (c.in_ok-make_switch.ensures.any_moment b rests) second (λ l torn. inl torn) (λ l torn. inr torn)

pub returns-clause-exact : goal.returns-clause-exact
returns-clause-exact g c p told =
    let D = g.D.Disk in
    let plan = c.args.plan.now in
    let before = calls_before (seen_switch plan.switch) in
    let first = c.in_ok-make_switch.ensures.exact p told in
    let second = subst (λ (l : List ℕ). (D.plain c.append_record.new.disk ≡ Some (after_calls (append_calls plan.gate l) (after_calls before p))) × (is_ok c.append_record.result ≡ all_succeed (append_calls plan.gate l) (after_calls before p)))
    c.deref.ensures.value (c.append_record.ensures.exact (after_calls before p) first.0) in
    two_lists before (append_calls plan.gate plan.body.items) p (D.plain c.append_record.new.disk) (is_ok c.append_record.result) first.1 second
