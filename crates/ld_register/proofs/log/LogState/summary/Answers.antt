use Rattle.std.proofs.Common.{◌≡◌, ◌≤◌, ◌∙◌, ap, sym, subst, inl, inr, arith, IsSome}
use Rattle.ld_table.specs.Table.{find}
use Rattle.ld_msg.specs.Bounds.{IsSummary}
use Rattle.ld_register.proofs.Logs.{not_shown, is_shown, if_found}
use Rattle.ld_register.proofs.log.LogState.summary.Goals.{then-e-eq0-via-then-e-eq0, then-e-eq0-via-else-e-eq0+then-self-e}
use Rattle.ld_register.proofs.log.LogState.summary.Goals as goal

pub returns-then-e-eq0-clause-value : goal.returns-then-e-eq0-clause-value
returns-then-e-eq0-clause-value c = let l = ap (λ v. v.lce) c.self.view_is in elim c.then-e-eq0.branch [
  | then-e-eq0-via-then-e-eq0 w ↦ not_shown c.args.e c.args.self.now.lce c.args.self.now.summaries (inl w.if-e-eq0.true)
  | then-e-eq0-via-else-e-eq0+then-self-e w ↦ not_shown c.args.e c.args.self.now.lce c.args.self.now.summaries (inr (let h = w.if-self-e.true in omega arith))
]

gotten : (c : goal.After-copied) → c.copied.result ≡ find c.args.e c.self.inside.summaries.entries
unfolding find
gotten c = c.copied.ensures ∙ c.get.ensures.value

pub returns-clause-value : goal.returns-clause-value
returns-clause-value c = gotten c ∙ (ap (λ v. find c.args.e v.summaries) c.self.view_is ∙ is_shown c.args.e c.args.self.now.lce c.args.self.now.summaries (let h = c.if-e-eq0.false in omega arith) (let l = ap (λ v. v.lce) c.self.view_is in let h = c.if-self-e.false in omega arith))

pub returns-clause-shown : goal.returns-clause-shown
returns-clause-shown c = let one : 1 ≤ c.args.e = (let h = c.if-e-eq0.false in omega arith) in let l = ap (λ v. v.lce) c.self.view_is in let h = c.if-self-e.false in
    ((λ some. (one, omega arith)), (λ range. subst IsSome (sym (gotten c)) (c.self.invariant.there c.args.e one h)))

pub returns-clause-sound : goal.returns-clause-sound
returns-clause-sound c = if_found c.copied.result (IsSummary c.args.e) (λ y e. c.self.invariant.are c.args.e y (sym (gotten c) ∙ e))
