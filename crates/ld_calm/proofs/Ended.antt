-- In every run each summary that a node has ends within its epoch.
use Rattle.std.proofs.Common.{◌≡◌, ◌≤◌, ◌<◌, ℕ, zero, suc, max, inl, inr, refl, ap, Bool, true, false, ◌==◌, if◌then◌else◌, List, Some, arith}
use Rattle.ld_table.specs.Table.{find}
use Rattle.ld_lsn.specs.Number.{last_esn}
use Rattle.ld_config.specs.declared.config.Config.{Config}
use Rattle.ld_msg.specs.declared.msg.Summary.{Summary}
use Rattle.ld_msg.specs.Digest.{plan_end, plan_floor, top_place}
use Rattle.ld_op.specs.Plain.{log_of, summary_at, epoch_zero}
use Rattle.ld_machine.specs.Facts.{Happened}
use Rattle.ld_machine.specs.State.{node_at}
use Rattle.ld_machine.specs.World.{World}
use Rattle.ld_safety.proofs.Lists.{Some_inj}
use Rattle.ld_safety.proofs.GivenSteps.{BaseGiven}
use Rattle.ld_safety.proofs.Along.{Along}
use Rattle.ld_safety.proofs.LostJoined.{summaries_here, bounded_here}
use Rattle.ld_calm.proofs.Halved.{AllEnds}

positive_epoch : (e : ℕ) → (e == 0) ≡ false → 0 < e
positive_epoch zero h = absurd cc
positive_epoch (suc e) h = omega arith

pub ends_everywhere : (c : Config) (hs : List Happened) (w : World) → BaseGiven c hs w × Along c hs w → AllEnds w.state
unfolding summary_at plan_end
ends_everywhere c hs w B l y e z f = by_zero (e == 0) refl f where
  by_zero : (b : Bool) → (e == 0) ≡ b → (if b then Some epoch_zero else find e (log_of (node_at w.state y).plain l).summaries) ≡ Some z → (1 ≤ z.end) × (z.end ≤ last_esn)
  by_zero true t q = let s : epoch_zero ≡ z = Some_inj q in let k : 1 ≡ z.end = ap (λ (x : Summary). x.end) s in (omega arith, omega arith)
  by_zero false t q =
      let k = summaries_here c hs w B y l e (node_at w.state y).plain z (inl refl) (positive_epoch e t) q in
      let b = bounded_here c hs w B l e z k.0 (positive_epoch e t) in
      let p = positive_epoch e t in
      (elim (B.1.said.register l e z k.0).1 [ inl a ↦ absurd (let u = a.0 in omega arith) | inr a ↦ (let u : z.end ≡ suc (max (top_place a.plan.basis.digest a.plan.basis.digest) (plan_floor e a.plan.basis.digest)) = a.plan.end in omega arith) ], b.1)
