-- Along loss plans the last known good offset doesn't rise.
use Rattle.std.proofs.Common.{◌≡◌, ◌≤◌, ◌<◌, ℕ, inl, inr, sym, subst, true, List, arith}
use Rattle.std.proofs.lemmas.Bool.{cases_Bool}
use Rattle.ld_table.specs.Words.{is_in}
use Rattle.ld_config.specs.declared.config.Config.{Config}
use Rattle.ld_msg.specs.declared.msg.Body.TheVariants as bodies
use Rattle.ld_msg.specs.Digest.{Told, digest_lng}
use Rattle.ld_machine.specs.Config.{fixed_at}
use Rattle.ld_machine.specs.Facts.{Happened}
use Rattle.ld_machine.specs.World.{World, In, from_node}
use Rattle.ld_safety.proofs.Plans.{lng_has}
use Rattle.ld_safety.proofs.Protocol.{Basis, plan_of}
use Rattle.ld_safety.proofs.Along.{Along}
use Rattle.ld_safety.proofs.LossHeard.{whole_told}

module _ (c : Config) (hs : List Happened) (w : World) (R : Along c hs w) where
  pub plans_low : (l e b g : ℕ) (d f : Basis) → In (plan_of l e b d) w.made → In (plan_of l e g f) w.made → d.loss ≡ true → b < g → digest_lng f.digest ≤ digest_lng d.digest
  plans_low l e b g d f i j lo lt = lng_has (λ k. k ≤ digest_lng d.digest) f.digest (omega arith) by_told where
    by_told : (t : Told) → In t f.digest → t.lng ≤ digest_lng d.digest
    by_told t u = elim ((R.plans l e g f j).digest.told t u).known [
      | inl z ↦ omega arith
      | inr z ↦
          let v = whole_told c hs w R l e t.node (subst (λ x. In t.node (fixed_at c w.state.register l x)) z.epoch (R.pages_of l t.node g z.from z.upto z.trim t.lng z.entries z.page).1) b d i lo (elim (cases_Bool (is_in t.node d.gone)) [
            | inr k ↦ k
            | inl k ↦ absurd (let y = (R.losses l e b d i lo).pages t.node g z.from z.upto z.trim t.lng z.entries k z.page z.epoch in omega arith)
          ]) in
          R.lows l e b d i lo v.0 v.1 v.3 g z.from z.upto z.trim t.lng z.entries (subst (λ y. In (from_node l y g (bodies.DigestPage z.from z.upto z.trim t.lng z.entries)) w.state.network.sent) (sym v.2) z.page) z.epoch lt
    ]
