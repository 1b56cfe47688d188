-- What an acknowledgement and an item of a reader say of a number for good; and that none of them hides another.
use Rattle.std.proofs.Common.{◌≡◌, ◌∙◌, ◌⊎◌, ◌≤◌, ◌<◌, ℕ, ◌+◌, inl, inr, refl, false, sym, subst, List, Some, arith}
use Rattle.ld_lsn.specs.Number.{epoch_of, esn_of, numbered}
use Rattle.ld_config.specs.declared.config.Config.{Config}
use Rattle.ld_msg.specs.declared.msg.What.{What}
use Rattle.ld_msg.specs.declared.msg.What.TheVariants.{Rec, Hole, Bridge}
use Rattle.ld_msg.specs.declared.msg.Entry.{Entry}
use Rattle.ld_msg.specs.declared.msg.Summary.{Summary}
use Rattle.ld_msg.specs.declared.msg.Msg.{Msg}
use Rattle.ld_msg.specs.Digest.{plan_item}
use Rattle.ld_msg.specs.Register.{Register}
use Rattle.ld_machine.specs.Facts.{Happened}
use Rattle.ld_machine.specs.World.{Made, In}
use Rattle.ld_safety.proofs.Lists.{Some_inj}
use Rattle.ld_safety.proofs.Plans.{plan_shape, floor_lng, end_above_floor}
use Rattle.ld_safety.proofs.Protocol.{Basis, plan_at, plan_of, Says, PlanSays, PlansOnce, AppendsOnce, says_once}
use Rattle.ld_safety.proofs.Settled.{HoleFine, LossSays, Acknowledged, ClosedBy, ClosedSays, ClosedEntry}
use Rattle.ld_safety.proofs.Shown.{acked_item, acked_own}
use Rattle.ld_safety.proofs.LossPlans.{no_loss_hole}
use Rattle.ld_safety.proofs.Plannings.{PlanMade}
use Rattle.ld_safety.proofs.LossBook.{FoundBelow}

module _ (c : Config) (hs : List Happened) (made : List Made) (sent : List Msg) (r : Register) where
  -- the closed epoch of the number says this of it
  pub record ClosedItem (l n : ℕ) (x : What) : Type 0 where
    pub summary : Summary
    pub closed : ClosedBy c hs made sent r l (epoch_of n) summary
    pub says : ClosedSays hs made l n summary x
    pub hole : HoleFine made l n x
    pub below : esn_of n < summary.end

  -- a record
  abbrev pub RecordAt : ℕ → ℕ → Type 0
  RecordAt l n = Acknowledged c hs sent r l n ⊎ ((p : List ℕ) × ClosedItem l n (Rec p))

  -- numbers past the end of their closed epoch, whose plan found what it says
  pub record BridgeAt (l low high : ℕ) : Type 0 where
    pub epoch : ℕ
    pub upto : high ≤ numbered (epoch + 1) 0
    pub past : (epoch ≡ 0) ⊎ ((y : Summary) × ClosedBy c hs made sent r l epoch y × (numbered epoch y.end ≤ low) × (y.loss ≡ false))

  pub closed_item : (l n : ℕ) (x : What) (e : Entry) → e.number ≡ n → e.what ≡ x → ClosedEntry c hs made sent r l e → ClosedItem l n x
  closed_item l n x e q w h = subst (λ k. ClosedItem l k x) q (subst (ClosedItem l e.number) w (record { summary = h.summary; closed = h.closed; says = h.says; hole = h.hole; below = h.below }))

  module _ (A : AppendsOnce hs) (P : PlansOnce made) (F : (l e b : ℕ) (d : Basis) → In (plan_of l e b d) made → PlanMade c hs sent made r l e b d) (last : FoundBelow made) where
    -- no loss plan says a hole
    loss_says_none : (l n : ℕ) → LossSays made l n Hole → ⊥
    loss_says_none l n s = no_loss_hole (epoch_of n) (esn_of n) s.basis.digest (subst (λ k. plan_item (epoch_of n) k s.basis.digest (esn_of n) ≡ Some Hole) s.loss s.item)

    -- an entry at an acknowledged number is its record, or a loss plan's
    pub acked_no_hole : (l b n : ℕ) → Acknowledged c hs sent r l n → Says hs made l b n Hole → ⊥
    acked_no_hole l b n a s = elim (acked_own c hs made sent r A P F last l n b Hole a s) [ inl o ↦ (let z : Hole ≡ Rec o.payload = o.is in cc) | inr o ↦ loss_says_none l n o ]

    -- what a plan says isn't known good
    above_good : (l n : ℕ) (y : Summary) (x : What) → (b : ClosedBy c hs made sent r l (epoch_of n) y) → PlanSays made l y.ballot n x → y.lng < esn_of n
    above_good l n y x b s =
        let d : s.basis ≡ b.plan.basis = P l (epoch_of n) y.ballot s.basis b.plan.basis s.planned b.plan.planned in
        let k = (plan_shape (epoch_of n) b.plan.basis.loss b.plan.basis.digest (esn_of n) x (subst (λ (v : Basis). plan_at (epoch_of n) v (esn_of n) ≡ Some x) d s.item)).above in
        let g = floor_lng (epoch_of n) b.plan.basis.digest in let z = b.plan.lng in omega arith

    -- a closed epoch says of an acknowledged number that it is no hole
    closed_no_hole : (l n : ℕ) (y : Summary) → Acknowledged c hs sent r l n → ClosedSays hs made l n y Hole → ⊥
    closed_no_hole l n y a (inl s) = acked_no_hole l y.ballot n a (inr s)
    closed_no_hole l n y a (inr (inl s)) = acked_no_hole l (epoch_of n) n a (inl s.says)
    closed_no_hole l n y a (inr (inr s)) = loss_says_none l n s.says

    -- where it says a hole it says no record
    hole_or_record : (l n : ℕ) (y : Summary) (q : List ℕ) → ClosedBy c hs made sent r l (epoch_of n) y → ClosedSays hs made l n y Hole → HoleFine made l n Hole → ClosedSays hs made l n y (Rec q) → ⊥
    hole_or_record l n y q b (inl s) f (inl t) = let z : Hole ≡ Rec q = says_once hs made l y.ballot n Hole (Rec q) A P (inr s) (inr t) in cc
    hole_or_record l n y q b (inl s) f (inr (inl t)) = let u = above_good l n y Hole b s in let v = t.low in omega arith
    hole_or_record l n y q b (inl s) f (inr (inr t)) = f refl t.says.ballot t.says.basis q t.says.planned t.says.loss t.says.item
    hole_or_record l n y q b (inr (inl s)) f t = let z : Hole ≡ Rec s.says.payload = s.says.is in cc
    hole_or_record l n y q b (inr (inr s)) f t = loss_says_none l n s.says

    -- a hole isn't a record
    pub no_hole : (l n : ℕ) → ClosedItem l n Hole → RecordAt l n → ⊥
    no_hole l n h (inl a) = closed_no_hole l n h.summary a h.says
    no_hole l n h (inr p) = let y : p.1.summary ≡ h.summary = Some_inj (sym p.1.closed.found_so ∙ h.closed.found_so) in hole_or_record l n h.summary p.0 h.closed h.says h.hole (subst (λ (v : Summary). ClosedSays hs made l n v (Rec p.0)) y p.1.says)

    -- nothing of an epoch's offsets stands above the bridge of a lesser one
    in_epoch : (n e : ℕ) → 0 < esn_of n → n ≤ numbered (e + 1) 0 → numbered e 0 ≤ n → epoch_of n ≡ e
    in_epoch n e p a b = omega arith

    -- what was read of a closed epoch whose plan found what it says is below its end
    closed_record : (l n : ℕ) (y : Summary) → ClosedBy c hs made sent r l (epoch_of n) y → y.loss ≡ false → RecordAt l n → esn_of n < y.end
    closed_record l n y b lo (inl a) = elim (acked_item c hs made sent r A P F last l n y.ballot b.plan.basis a b.plan.planned (sym b.plan.loss ∙ lo)) [
      | inl q ↦ (let k = plan_shape (epoch_of n) b.plan.basis.loss b.plan.basis.digest (esn_of n) (Rec a.payload) q in elim k.kind [
        | inl u ↦ (let v = u.0 in let w = b.plan.end in omega arith)
        | inr u ↦ absurd (let v : Rec a.payload ≡ Bridge = u.1 in cc)
      ])
      | inr q ↦ (let z = end_above_floor (epoch_of n) b.plan.basis.digest in let v = b.plan.end in omega arith)
    ]
    closed_record l n y b lo (inr p) = let same : p.1.summary ≡ y = Some_inj (sym p.1.closed.found_so ∙ b.found_so) in subst (λ (v : Summary). esn_of n < v.end) same p.1.below

    says_place : (l n : ℕ) (y : Summary) (p : List ℕ) → ClosedSays hs made l n y (Rec p) → 0 < esn_of n
    says_place l n y p (inl s) = let z = (plan_shape (epoch_of n) s.basis.loss s.basis.digest (esn_of n) (Rec p) s.item).above in omega arith
    says_place l n y p (inr (inl s)) = s.above
    says_place l n y p (inr (inr s)) = let z = (plan_shape (epoch_of n) s.says.basis.loss s.says.basis.digest (esn_of n) (Rec p) s.says.item).above in omega arith

    record_place : (l n : ℕ) → RecordAt l n → (0 < esn_of n) × (0 < epoch_of n)
    record_place l n (inl a) = (a.above, a.reached.0)
    record_place l n (inr p) = (says_place l n p.1.summary p.0 p.1.says, p.1.closed.positive)

    -- a bridge holds no record
    pub no_bridge_over : (l low high n : ℕ) → BridgeAt l low high → low ≤ n → n ≤ high → RecordAt l n → ⊥
    no_bridge_over l low high n b lo hi h = let p = record_place l n h in by_past p.0 p.1 b.past where
      by_past : 0 < esn_of n → 0 < epoch_of n → (b.epoch ≡ 0) ⊎ ((y : Summary) × ClosedBy c hs made sent r l b.epoch y × (numbered b.epoch y.end ≤ low) × (y.loss ≡ false)) → ⊥
      by_past pos ep (inl z) = let u = b.upto in omega arith
      by_past pos ep (inr k) =
          let u = b.upto in let v = k.2 in
          let e : epoch_of n ≡ b.epoch = in_epoch n b.epoch pos (omega arith) (omega arith) in
          let kk : ClosedBy c hs made sent r l (epoch_of n) k.0 = subst (λ x. ClosedBy c hs made sent r l x k.0) (sym e) k.1 in
          let w = closed_record l n k.0 kk k.3 h in omega arith
