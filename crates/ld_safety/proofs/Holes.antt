-- Where a node has a hole of a clean epoch no loss plan has a record.
use Rattle.std.proofs.Common.{◌≡◌, ◌∙◌, ◌⊎◌, ◌≤◌, ◌<◌, ℕ, zero, suc, inl, inr, refl, ap, sym, subst, true, false, List, [], ◌∷◌, map, Some, arith}
use Rattle.std.proofs.lemmas.Bool.{cases_Bool, cases_order, cases_lt}
use Rattle.ld_table.specs.Words.{is_in}
use Rattle.ld_table.specs.Table.{find}
use Rattle.ld_lsn.specs.Number.{epoch_of, esn_of}
use Rattle.ld_config.specs.declared.config.Config.{Config}
use Rattle.ld_msg.specs.declared.msg.What.{What}
use Rattle.ld_msg.specs.declared.msg.What.TheVariants.{Rec, Hole}
use Rattle.ld_msg.specs.declared.msg.Entry.{Entry}
use Rattle.ld_msg.specs.declared.msg.Summary.{Summary}
use Rattle.ld_msg.specs.declared.msg.Body.TheVariants as bodies
use Rattle.ld_msg.specs.Digest.{Told, best, plan_item, plan_floor, digest_lng}
use Rattle.ld_op.specs.Plain.{log_of}
use Rattle.ld_machine.specs.Config.{fixed_of, fixed_at}
use Rattle.ld_machine.specs.Facts.{Happened}
use Rattle.ld_machine.specs.State.{node_at}
use Rattle.ld_machine.specs.World.{World, In, from_node}
use Rattle.ld_safety.proofs.Lists.{Some_inj, not_none, not_both}
use Rattle.ld_safety.proofs.Plans.{plan_shape, best_least, ranked, floor_lng}
use Rattle.ld_safety.proofs.LossPlans.{no_loss_hole, loss_record}
use Rattle.ld_safety.proofs.Protocol.{Basis, plan_of, plan_at, Says, PlanSays, AppendsOnce}
use Rattle.ld_safety.proofs.Settled.{ClosedBy}
use Rattle.ld_safety.proofs.Said.{SaidHere}
use Rattle.ld_safety.proofs.Shown.{acked_says, follows_closed, above_floor}
use Rattle.ld_safety.proofs.Plannings.{WhyMade, LossMade, loss_nodes}
use Rattle.ld_safety.proofs.Along.{Along, closed_last}

-- a node of the set is in a digest of it
pub node_told : (y : ℕ) (d : List Told) (ns : List ℕ) → map (λ (t : Told). t.node) d ≡ ns → In y ns → (t : Told) × In t d × (t.node ≡ y)
node_told y d ns q i = by_list d (subst (In y) (sym q) i) where
  by_list : (d : List Told) → In y (map (λ (t : Told). t.node) d) → (t : Told) × In t d × (t.node ≡ y)
  by_list [] j = absurd j
  by_list (t ∷ d) (inl e) = (t, inl refl, sym e)
  by_list (t ∷ d) (inr j) = let r = by_list d j in (r.0, inr r.1, r.2)

module _ (c : Config) (hs : List Happened) (w : World) (R : Along c hs w) (A : AppendsOnce hs) (y l : ℕ) (x : Entry) (s : Summary)
    (here : find x.number (log_of (node_at w.state y).plain l).entries ≡ Some x) (closed : ClosedBy c hs w.made w.state.network.sent w.state.register l (epoch_of x.number) s)
    (above : 0 < esn_of x.number) (trim : s.trim < x.number) (below : esn_of x.number < s.end) (least : (s.ballot ≤ x.ballot) ⊎ (esn_of x.number ≤ s.lng))
    (said : SaidHere hs w.made w.state.register l x.ballot x.number x.what) (hole : x.what ≡ Hole) where
  -- no loss plan says a hole
  loss_hole : (d : Basis) → d.loss ≡ true → plan_at (epoch_of x.number) d (esn_of x.number) ≡ Some Hole → ⊥
  loss_hole d lo h = no_loss_hole (epoch_of x.number) (esn_of x.number) d.digest (subst (λ k. plan_item (epoch_of x.number) k d.digest (esn_of x.number) ≡ Some Hole) lo h)

  -- the hole is of a plan that found what it says
  record Found : Type 0 where
    plan : PlanSays w.made l x.ballot x.number x.what
    found : plan.basis.loss ≡ false

  found_hole : Found
  found_hole = elim said.says [
    | inl z ↦ elim z [
      | inl o ↦ absurd (let k : Hole ≡ Rec o.payload = sym hole ∙ o.is in cc)
      | inr o ↦ record { plan = o; found = elim (cases_Bool o.basis.loss) [ inl t ↦ absurd (loss_hole o.basis t (o.item ∙ ap Some hole)) | inr t ↦ t ] }
    ]
    | inr z ↦ elim z [
      | inl g ↦ absurd (let k : Hole ≡ Rec g.good.says.payload = sym hole ∙ g.good.says.is in cc)
      | inr g ↦ absurd (let z = g.says.says in loss_hole z.basis z.loss (z.item ∙ ap Some hole))
    ]
  ]

  -- what is known good is no hole
  unknown : s.lng < esn_of x.number
  unknown = elim (cases_lt s.lng (esn_of x.number)) [
    | inl a ↦ a
    | inr a ↦ absurd (let g = closed.plan.good x.number refl above a in let z : Hole ≡ Rec g.payload = sym hole ∙ acked_says c hs w.made w.state.network.sent w.state.register A R.once R.plans R.last l x.number x.ballot x.what g found_hole.plan found_hole.found in cc)
  ]

  late : s.ballot ≤ x.ballot
  late = elim least [ inl a ↦ a | inr a ↦ absurd (let z = unknown in omega arith) ]

  floor : plan_floor (epoch_of x.number) closed.plan.basis.digest < esn_of x.number
  floor = above_floor c hs w.made w.state.network.sent w.state.register A R.once R.plans R.last l x.number s closed.plan above trim unknown

  -- a plan from the closing one on that found what it says says what that one does
  as_closing : (a : ℕ) (d : Basis) (z : What) → s.ballot ≤ a → In (plan_of l (epoch_of x.number) a d) w.made → d.loss ≡ false → plan_at (epoch_of x.number) d (esn_of x.number) ≡ Some z → plan_at (epoch_of x.number) closed.plan.basis (esn_of x.number) ≡ Some z
  as_closing a d z le i lo it = elim (cases_order s.ballot a) [
    | inl q ↦ (let same : closed.plan.basis ≡ d = R.once l (epoch_of x.number) a closed.plan.basis d (subst (λ v. In (plan_of l (epoch_of x.number) v closed.plan.basis) w.made) q closed.plan.planned) i in subst (λ (v : Basis). plan_at (epoch_of x.number) v (esn_of x.number) ≡ Some z) (sym same) it)
    | inr (inl q) ↦ follows_closed c hs w.made w.state.network.sent w.state.register A R.once R.plans R.last l x.number a s d z (closed_last c hs w R) closed q i lo floor (let e = closed.plan.end in omega arith) it
    | inr (inr q) ↦ absurd (omega arith)
  ]

  -- the node is not among those that had nothing to tell
  module _ (accepted : (log_of (node_at w.state y).plain l).lost_to < epoch_of x.number) where
    hole_before : (b : ℕ) (f : Basis) → In (plan_of l (epoch_of x.number) b f) w.made → f.loss ≡ true → x.ballot < b
    hole_before b f i lo = elim (cases_order x.ballot b) [
      | inl q ↦ absurd (let same : found_hole.plan.basis ≡ f = R.once l (epoch_of x.number) b found_hole.plan.basis f (subst (λ v. In (plan_of l (epoch_of x.number) v found_hole.plan.basis) w.made) q found_hole.plan.planned) i in
          not_both f.loss lo (sym (ap (λ (d : Basis). d.loss) same) ∙ found_hole.found))
      | inr (inl q) ↦ q
      | inr (inr q) ↦ absurd (not_both f.loss lo (R.last l (epoch_of x.number) b x.ballot f found_hole.plan.basis i found_hole.plan.planned q found_hole.found))
    ]

    -- its entry is in the digest of each loss plan that says something of the number
    in_digest : (b : ℕ) (f : Basis) → In (plan_of l (epoch_of x.number) b f) w.made → f.loss ≡ true → digest_lng f.digest < esn_of x.number → (t : Told) × In t f.digest × In x t.entries
    in_digest b f i lo lng = by_told (made_so (R.plans l (epoch_of x.number) b f i).why) where
      set : In y (fixed_at c w.state.register l (epoch_of x.number))
      set = ((R.marks y (node_at w.state y).plain (inl refl)).of_set l x.number x here accepted).1

      made_so : WhyMade (fixed_of c w.state.register l (epoch_of x.number)) f → LossMade (fixed_of c w.state.register l (epoch_of x.number)) f
      made_so (inl h) = absurd (not_both f.loss lo h.0)
      made_so (inr h) = h.1

      by_told : LossMade (fixed_of c w.state.register l (epoch_of x.number)) f → (t : Told) × In t f.digest × In x t.entries
      by_told m =
          let p = R.plans l (epoch_of x.number) b f i in
          let t = node_told y f.digest (fixed_at c w.state.register l (epoch_of x.number)) (loss_nodes c hs w.state.network.sent w.made w.state.register l (epoch_of x.number) b f p lo) set in elim (m.told t.0 t.1) [
            | inl k ↦ (let v = (p.digest.told t.0 t.1).covers x.number refl lng (inr k.0) in
                let sh = (R.marks y (node_at w.state y).plain (inl refl)).shown l b v.from v.upto v.trim v.lng v.entries (subst (λ z. In (from_node l z b (bodies.DigestPage v.from v.upto v.trim v.lng v.entries)) w.state.network.sent) t.2 v.page) in
                (t.0, t.1, v.told x (sh x.number x here (sym v.epoch) v.low v.high (hole_before b f i lo) (subst (λ e. (log_of (node_at w.state y).plain l).lost_to < e) (sym v.epoch) accepted))))
            | inr k ↦ absurd (elim ((R.losses l (epoch_of x.number) b f i lo).fallen y (subst (λ z. is_in z f.gone ≡ true) t.2 k) (node_at w.state y).plain (inl refl)) [
              | inl g ↦ not_none (sym ((R.marks y (node_at w.state y).plain (inl refl)).blank g l x.number) ∙ here)
              | inr g ↦ (let a = accepted in omega arith)
            ])
          ]

    no_record : (fuel b : ℕ) (f : Basis) (q : List ℕ) → b < fuel → In (plan_of l (epoch_of x.number) b f) w.made → f.loss ≡ true → plan_at (epoch_of x.number) f (esn_of x.number) ≡ Some (Rec q) → ⊥
    no_record zero b f q fu i lo it = omega arith
    no_record (suc fuel) b f q fu i lo it =
        let sh = plan_shape (epoch_of x.number) f.loss f.digest (esn_of x.number) (Rec q) it in
        let ab = sh.above in
        let fl = floor_lng (epoch_of x.number) f.digest in
        let r = (loss_record x.number f.digest q (subst (λ k. plan_item (epoch_of x.number) k f.digest (esn_of x.number) ≡ Some (Rec q)) lo it)).0 in
        let t = in_digest b f i lo (omega arith) in
        let ra = ranked (best x.number f.digest) x.ballot (best_least x.number f.digest t.0 x t.1 t.2 refl) in
        let same : r.entry ≡ ra.0 = Some_inj (sym r.best_so ∙ ra.1) in
        let up : x.ballot ≤ r.entry.ballot = subst (λ (v : Entry). x.ballot ≤ v.ballot) (sym same) ra.2 in
        let fr = ((R.plans l (epoch_of x.number) b f i).digest.told r.told r.in_digest).frozen r.entry r.in_entries in
        by_says fuel r.entry.ballot q (let z = fr.below in omega arith) up (λ h g k fa j lh ih. no_record fuel h g k fa j lh ih) (subst (λ n. Says hs w.made l r.entry.ballot n (Rec q)) r.number (subst (λ z. Says hs w.made l r.entry.ballot r.entry.number z) r.what fr.says)) where
          by_says : (fuel a : ℕ) (q : List ℕ) → a < fuel → x.ballot ≤ a → ((h : ℕ) (g : Basis) (k : List ℕ) → h < fuel → In (plan_of l (epoch_of x.number) h g) w.made → g.loss ≡ true → plan_at (epoch_of x.number) g (esn_of x.number) ≡ Some (Rec k) → ⊥) → Says hs w.made l a x.number (Rec q) → ⊥
          by_says fuel a q fa up IH (inl o) = let z = o.own in let k = found_hole.plan.later in omega arith
          by_says fuel a q fa up IH (inr o) = elim (cases_Bool o.basis.loss) [
            | inl t ↦ IH a o.basis q fa o.planned t o.item
            | inr t ↦ let le = late in
                let u = as_closing a o.basis (Rec q) (omega arith) o.planned t o.item in
                let v = as_closing x.ballot found_hole.plan.basis Hole late found_hole.plan.planned found_hole.found (found_hole.plan.item ∙ ap Some hole) in
                let z : Rec q ≡ Hole = Some_inj (sym u ∙ v) in cc
          ]

  pub no_record_beside : (b : ℕ) (f : Basis) (q : List ℕ) → In (plan_of l (epoch_of x.number) b f) w.made → f.loss ≡ true → plan_at (epoch_of x.number) f (esn_of x.number) ≡ Some (Rec q) → ⊥
  no_record_beside b f q i lo it = elim (cases_lt (log_of (node_at w.state y).plain l).lost_to (epoch_of x.number)) [
    | inl a ↦ no_record a (suc b) b f q (omega arith) i lo it
    | inr a ↦ ((R.marks y (node_at w.state y).plain (inl refl)).refilled l x.number x here said.reached.0 a).0 hole b f q i lo it
  ]
