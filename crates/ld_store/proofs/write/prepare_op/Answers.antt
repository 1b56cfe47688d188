use Rattle.std.proofs.Common.{◌≡◌, subst}
use Rattle.std.specs.Prelude.{IfOk}
use Rattle.ld_segment.specs.Plans.{seen_plan, planned}
use Rattle.ld_store.specs.Laid.{layout_in, slots_in, IsPast}
use Rattle.ld_store.proofs.write.prepare_op.Goals as goal

pub returns-clause-plan : goal.returns-clause-plan
returns-clause-plan c = subst (λ k. IfOk c.prepare.result (λ p. seen_plan p.0 ≡ planned k (layout_in c.args.laid.now c.args.index.now.state) (slots_in c.args.laid.now) c.args.body.items)) c.base_kind.ensures c.prepare.ensures.plan

pub returns-clause-full : goal.returns-clause-full
returns-clause-full c is = subst (λ k. IsPast k (layout_in c.args.laid.now c.args.index.now.state) (slots_in c.args.laid.now) c.args.body.items) c.base_kind.ensures (c.prepare.ensures.full is)
