use Rattle.std.proofs.Common.{◌≡◌, inr, refl, ap, subst, arith}
use Rattle.std.specs.Prelude.{IfSome}
use Rattle.ld_segment.specs.Plans.{seen_plan, planned, planned_end}
use Rattle.ld_store.specs.Laid.{layout_in, slots_in}
use Rattle.ld_store.proofs.write.prepare.Goals as goal

pub returns-else-end-gt-LIMIT-clause-plan : goal.returns-else-end-gt-LIMIT-clause-plan
returns-else-end-gt-LIMIT-clause-plan c =
    subst (λ o. IfSome o (λ p. seen_plan p.0 ≡ planned c.args.kind (layout_in c.args.laid.now c.args.index.now.state) (slots_in c.args.laid.now) c.args.body.items)) c.in-Some.is
    (c.in_ok-plan.ensures.plan (slots_in c.args.laid.now) refl refl)

pub returns-then-end-gt-LIMIT-clause-full : goal.returns-then-end-gt-LIMIT-clause-full
returns-then-end-gt-LIMIT-clause-full c is =
    let plan = subst (λ o. IfSome o (λ p. seen_plan p.0 ≡ planned c.args.kind (layout_in c.args.laid.now c.args.index.now.state) (slots_in c.args.laid.now) c.args.body.items)) c.in-Some.is
    (c.in_ok-plan.ensures.plan (slots_in c.args.laid.now) refl refl) in
    inr (inr (inr (omega (arith, c.if-end-gt-LIMIT.true, c.end.ensures, ap planned_end plan))))
