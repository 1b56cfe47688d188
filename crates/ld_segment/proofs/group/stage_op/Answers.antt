use Rattle.std.proofs.Common.{◌≡◌, ◌+◌, ◌∷◌, [], List, ℕ, is_ok, Some, ◌∙◌, subst}
use Rattle.std.specs.Prelude.{IfSome}
use Rattle.ld_disk.specs.Plain.{Call, after_call, after_calls, succeeds}
use Rattle.ld_journal.specs.Format.{behind}
use Rattle.ld_segment.specs.Plans.{seen_switch, calls_before}
use Rattle.ld_segment.proofs.Lists.{cut_list, then_one, not_ok}
use Rattle.ld_segment.proofs.group.stage_op.Goals as goal

pub returns-in_err-make_switch-clause-exact : goal.returns-in_err-make_switch-clause-exact
returns-in_err-make_switch-clause-exact g c p told =
    let plan = c.args.plan.now in
    let none = not_ok c.from_residual.result c.from_residual.ensures.0 in
    cut_list (calls_before (seen_switch plan.switch)) (Some (plan.gate + 1, behind plan.body.items) ∷ []) p _ (is_ok c.from_residual.result) none
    (let exact = c.in_err-make_switch.ensures.exact p told in (exact.0, none ∙ exact.1))

pub returns-clause-exact : goal.returns-clause-exact
returns-clause-exact g c p told =
    let D = g.D.Disk in
    let plan = c.args.plan.now in
    let before = calls_before (seen_switch plan.switch) in
    let first = c.in_ok-make_switch.ensures.exact p told in
    let call : Call = Some (plan.gate + 1, behind plan.body.items) in
    let piece = c.deref.ensures.value ∙ c.requires.ready.piece in
    let last = subst (λ o. IfSome o (λ q. (D.plain c.write_at.new.self ≡ Some (after_call (Some (plan.gate + 1, c.deref.result.now)) q)) × (is_ok c.write_at.result ≡ succeeds q))) first.0 c.write_at.ensures.exact in
    then_one before call p (D.plain c.write_at.new.self) (is_ok c.write_at.result) first.1
    (subst (λ (l : List ℕ). D.plain c.write_at.new.self ≡ Some (after_call (Some (plan.gate + 1, l)) (after_calls before p))) piece last.0, last.1)
