use Rattle.std.proofs.Common.{◌≡◌, ◌++◌, List, Bool, ℕ, refl, sym, ap, arith, ◌∙◌}
use Rattle.ld_ids.specs.declared.set.Spec.{Spec}
use Rattle.ld_msg.specs.declared.msg.Body.{Body}
use Rattle.ld_msg.specs.Digest.{Told, Plan, plan}
use Rattle.ld_msg.specs.Sequencer.{item_stores, planned}
use Rattle.ld_recovery.specs.Sending.{sent}
use Rattle.ld_recovery.specs.Planning.{Plans}
use Rattle.ld_recovery.proofs.Settling.{from_planned, ends_above}
use Rattle.ld_recovery.proofs.stage.store.Goals as goal

pub new-requires-clause-numbers : goal.new-requires-clause-numbers
new-requires-clause-numbers c = from_planned _ _ _ _ (ap (λ (p : Plan). p.items) c.in_ok-plan.ensures)

pub new-requires-clause-end : goal.new-requires-clause-end
new-requires-clause-end c = ends_above _ _ _ _ (ap (λ (p : Plan). p.end) c.in_ok-plan.ensures)

pub new-requires-clause-lng : goal.new-requires-clause-lng
unfolding plan
new-requires-clause-lng c = omega (arith, ap (λ (p : Plan). p.lng) c.in_ok-plan.ensures, c.lng.ensures.value, c.lng.ensures.below)

loss_is : (epoch : ℕ) (loss : Bool) (d : List Told) → (plan epoch loss d).loss ≡ loss
unfolding plan
loss_is epoch loss d = refl

pub returns-clause-sent : goal.returns-clause-sent
returns-clause-sent c =
    let d = c.args.digest in
    let s = c.args.scope.now in
    let p = plan d.epoch c.args.loss d.told in
    let stores : Spec → Plan → List (ℕ × Body) = λ x q. item_stores x s.lost.now q.loss q.lng 0 (planned q.items) in
    c.in_ok-send.ensures.sent
    ∙ ap (λ (bs : List (ℕ × Body)). c.args.out.now ++ sent s.sender.now bs)
    (ap (λ (x : Plans). item_stores x.spec s.lost.now x.storing.loss x.storing.lng x.storing.wave x.storing.items) c.in_ok-storing.ensures
    ∙ (ap (λ (q : Plan). stores s.spec.now q) c.in_ok-plan.ensures
    ∙ (ap (λ (x : Spec). stores x p) (sym c.requires.of.0)
    ∙ ap (λ (l : Bool). item_stores d.spec s.lost.now l p.lng 0 (planned p.items)) (loss_is d.epoch c.args.loss d.told))))
