use Rattle.std.proofs.Common.{◌≡◌, ◌∙◌, ◌+◌, ◌++◌, ◌∷◌, [], List, ℕ, max, suc, ap, subst, arith}
use Rattle.ld_lsn.specs.Number.{numbered}
use Rattle.ld_msg.specs.declared.msg.What.TheVariants.{Bridge}
use Rattle.ld_msg.specs.Digest.{Told, Item, digest_trim, trim_place, plan_floor, plan}
use Rattle.ld_plan.specs.Decision.{IsDecision}
use Rattle.ld_plan.proofs.Planning.{plan_is}
use Rattle.ld_plan.proofs.Tops.{top_below}
use Rattle.ld_plan.proofs.plans.plan.Goals as goal

pub overflow_add-end : goal.overflow_add-end
overflow_add-end c =
    let h = subst (λ (l : List Told). IsDecision l c.in_ok-decided.decided) c.told-told.ensures.value c.in_ok-decided.ensures in
    let below = top_below c.args.digest.now.told c.told-told.ensures.in_place in
    omega (arith, h.top, below, c.trim_place-trimmed.ensures.below, c.lng-lng.ensures.below, c.max-floor.ensures, c.top.ensures, c.max-end.ensures)

pub returns : goal.returns
unfolding plan_floor
returns c =
    let d = c.args.digest.now.told in
    let h = subst (λ (l : List Told). IsDecision l c.in_ok-decided.decided) c.told-told.ensures.value c.in_ok-decided.ensures in
    let trim : c.greatest_trim-trim.result ≡ digest_trim d = c.greatest_trim-trim.ensures ∙ ap digest_trim c.told-told.ensures.value in
    let place : c.max-floor.result ≡ plan_floor c.epoch-epoch.result d = c.max-floor.ensures ∙ (ap (λ (t : ℕ). max t c.lng-lng.result) (c.trim_place-trimmed.ensures.place ∙ ap (trim_place c.epoch-epoch.result) trim) ∙ ap (max (trim_place c.epoch-epoch.result (digest_trim d))) c.lng-lng.ensures.value) in
    let end : c.max-end.result + 1 ≡ suc (max c.in_ok-decided.decided.top c.max-floor.result) = omega (arith, c.max-end.ensures, c.top.ensures) in
    let bridge : record { number = c.new.result; what = Bridge } ≡ record { number = numbered c.epoch-epoch.result (c.max-end.result + 1); what = Bridge } = ap (λ (n : ℕ). record { number = n; what = Bridge }) c.new.ensures in
    ap (λ (t : ℕ). record { trim = t; lng = c.lng-lng.result; end = c.max-end.result + 1; loss = c.args.loss; items = c.push.new.self }) trim
    ∙ (ap (λ (l : ℕ). record { trim = digest_trim d; lng = l; end = c.max-end.result + 1; loss = c.args.loss; items = c.push.new.self }) c.lng-lng.ensures.value
    ∙ (plan_is c.epoch-epoch.result c.args.loss d c.in_ok-decided.decided c.max-floor.result (c.max-end.result + 1) c.push.new.self h place end
    (c.in_ok-push.ensures.ok ∙ (ap (λ (b : Item). c.in_ok-items.items ++ b ∷ []) bridge ∙ ap (λ (l : List Item). l ++ record { number = numbered c.epoch-epoch.result (c.max-end.result + 1); what = Bridge } ∷ []) c.in_ok-items.ensures))
    ∙ ap (λ (e : ℕ). plan e c.args.loss d) c.epoch-epoch.ensures))
