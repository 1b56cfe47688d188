-- Recoveries agree: what as many nodes as there are copies stored for a ballot is the item of each plan of a greater one, unless it is trimmed or known good there.
use Rattle.std.proofs.Common.{◌≡◌, ◌∙◌, ◌⊎◌, ◌≤◌, ◌<◌, ℕ, zero, suc, ◌-◌, min, inl, inr, refl, ap, sym, subst, true, false, not, ◌&&◌, ◌==◌, nat_lt, if◌then◌else◌, List, Some, arith}
use Rattle.std.proofs.lemmas.Bool.{and_parts, eqb-true, cases_order, cases_lt, ltb-true, ltb-false}
use Rattle.ld_lsn.specs.Number.{epoch_of, esn_of, numbered, last_esn}
use Rattle.ld_ids.specs.declared.set.Spec.{Spec}
use Rattle.ld_ids.specs.Choice.{nodes_of}
use Rattle.ld_msg.specs.declared.msg.What.{What}
use Rattle.ld_msg.specs.declared.msg.What.TheVariants.{Rec, Hole, Bridge, Plug, Withheld}
use Rattle.ld_msg.specs.declared.msg.Entry.{Entry}
use Rattle.ld_msg.specs.declared.msg.Msg.{Msg}
use Rattle.ld_msg.specs.Digest.{Told, best, content, record_or, is_bridge, is_content, plan_end, plan_floor, trim_place, digest_trim, digest_lng}
use Rattle.ld_machine.specs.Facts.{Happened}
use Rattle.ld_machine.specs.World.{Made, In}
use Rattle.ld_safety.proofs.Lists.{count_share, cond_both, any_in}
use Rattle.ld_safety.proofs.Plans.{best_of, best_least, ranked, trim_least, top_least, plan_shape, plan_between, content_no_bridge, no_bridge, floor_trim, floor_lng, end_above_floor, end_above_top, content_no_withheld}
use Rattle.ld_safety.proofs.Protocol.{Basis, plan_of, plan_at, Says, PlansOnce, AppendsOnce, says_once, tells_stored, told_stored, Chosen, Ends, Kept, PlanFacts, whole_in}

-- the offset of a trim in its epoch covers what the trim covers
pub trim_covers : (e n t : ℕ) → epoch_of n ≡ e → esn_of n < last_esn → n ≤ t → esn_of n ≤ trim_place e t
trim_covers e n t q b l = cond_both (nat_lt (epoch_of t) e) 0 _ (λ x. esn_of n ≤ x) (λ a. absurd (let z = ltb-true _ _ a in omega arith))
    (λ a. cond_both (nat_lt e (epoch_of t)) (last_esn - 1) (min (esn_of t) (last_esn - 1)) (λ x. esn_of n ≤ x) (λ c. omega arith) (λ c. let y = ltb-false _ _ a in let z = ltb-false _ _ c in omega arith))

pub trim_place_up : (e t u : ℕ) → t ≤ u → trim_place e t ≤ trim_place e u
trim_place_up e t u l = cond_both (nat_lt (epoch_of t) e) 0 _ (λ x. x ≤ trim_place e u) (λ a. omega arith)
    (λ a. cond_both (nat_lt (epoch_of u) e) 0 _ (λ x. (if nat_lt e (epoch_of t) then last_esn - 1 else min (esn_of t) (last_esn - 1)) ≤ x) (λ b. absurd (let y = ltb-false _ _ a in let z = ltb-true _ _ b in omega arith))
    (λ b. cond_both (nat_lt e (epoch_of u)) (last_esn - 1) (min (esn_of u) (last_esn - 1)) (λ x. (if nat_lt e (epoch_of t) then last_esn - 1 else min (esn_of t) (last_esn - 1)) ≤ x)
    (λ d. cond_both (nat_lt e (epoch_of t)) (last_esn - 1) (min (esn_of t) (last_esn - 1)) (λ x. x ≤ last_esn - 1) (λ k. omega arith) (λ k. omega arith))
    (λ d. cond_both (nat_lt e (epoch_of t)) (last_esn - 1) (min (esn_of t) (last_esn - 1)) (λ x. x ≤ min (esn_of u) (last_esn - 1))
    (λ k. absurd (let y = ltb-true _ _ k in let z = ltb-false _ _ d in omega arith))
    (λ k. let y = ltb-false _ _ a in let z = ltb-false _ _ d in let v = ltb-false _ _ b in let w = ltb-false _ _ k in omega arith))))

content_is : (f : Entry) → is_bridge f.what ≡ false → (f.what ≡ Plug → ⊥) → (f.what ≡ Withheld → ⊥) → content false (Some f) ≡ f.what
content_is f h np nw = by_what f.what h np nw where
  by_what : (w : What) → is_bridge w ≡ false → (w ≡ Plug → ⊥) → (w ≡ Withheld → ⊥) → record_or Hole w ≡ w
  by_what (Rec p) g k u = refl
  by_what Hole g k u = refl
  by_what Bridge g k u = absurd cc
  by_what Plug g k u = absurd (k refl)
  by_what Withheld g k u = absurd (u refl)

-- what a ballot says of a number isn't withheld
pub says_kept : (hs : List Happened) (made : List Made) (l b n : ℕ) (x : What) → Says hs made l b n x → x ≡ Withheld → ⊥
says_kept hs made l b n x (inl o) q = let z : Withheld ≡ Rec o.payload = sym q ∙ o.is in cc
says_kept hs made l b n x (inr o) q = let h = plan_shape (epoch_of n) o.basis.loss o.basis.digest (esn_of n) x o.item in elim h.kind [
  | inl k ↦ content_no_withheld o.basis.loss (best (numbered (epoch_of n) (esn_of n)) o.basis.digest) (sym k.1 ∙ q)
  | inr k ↦ let z : Withheld ≡ Bridge = sym q ∙ k.1 in cc
]

module _ (hs : List Happened) (made : List Made) (sent : List Msg) (s : ℕ → Spec) (A : AppendsOnce hs) (P : PlansOnce made)
    (l : ℕ) (O : ℕ → Type 0)
    -- below a plan that found what it says each one did
    (last : (e a g : ℕ) (d f : Basis) → In (plan_of l e a d) made → In (plan_of l e g f) made → a < g → f.loss ≡ false → d.loss ≡ false)
    (F : (e b : ℕ) (d : Basis) → O e → In (plan_of l e b d) made → d.loss ≡ false → PlanFacts hs made sent (s e) l e b d.digest) where
  -- a node that both stored n for b and is whole in g's digest shows g what it had of n
  shared : (n b g : ℕ) (d : Basis) → O (epoch_of n) → digest_lng d.digest < esn_of n → b < g → In (plan_of l (epoch_of n) g d) made → d.loss ≡ false → Chosen (s (epoch_of n)) sent l n b → (t : Told) × In t d.digest × Kept made l g t.trim t.entries n b
  shared n b g d oe p lt i fd ch =
      let f = F (epoch_of n) g d oe i fd in
      let e = f.enough in
      let c = f.digest.whole in
      let r = count_share (tells_stored sent l n b) (whole_in d.digest) (nodes_of (s (epoch_of n))) (omega arith) in
      let t = any_in (λ (t : Told). (t.node == r.0) && (t.whole && not t.lost)) d.digest r.3 in
      let k = and_parts (t.0.node == r.0) (t.0.whole && not t.0.lost) t.2 in
      let w = and_parts t.0.whole (not t.0.lost) k.1 in
      (t.0, t.1, (f.digest.told t.0 t.1).seen w.0 n b refl p lt (told_stored sent l n b t.0.node (subst (λ y. tells_stored sent l n b y ≡ true) (sym (eqb-true _ _ k.0)) r.2)))

  -- x is at n in each plan between b and g, unless it is trimmed or known good there
  Older : ℕ → ℕ → ℕ → What → Type 0
  Older n b g x = (a : ℕ) (d : Basis) → b < a → a < g → In (plan_of l (epoch_of n) a d) made → (plan_at (epoch_of n) d (esn_of n) ≡ Some x) ⊎ (esn_of n ≤ plan_floor (epoch_of n) d.digest)

  -- no plan between ends below n
  no_end : (n b g : ℕ) (x : What) → Older n b g x → (x ≡ Bridge → ⊥) → Ends made l b g n → ⊥
  unfolding Older
  no_end n b g x old nb en = elim (old en.ballot en.basis en.above en.below en.planned) [
    | inl q ↦ let h = plan_shape (epoch_of n) en.basis.loss en.basis.digest (esn_of n) x q in let u = en.before in elim h.kind [ inl k ↦ (let v = k.0 in omega arith) | inr k ↦ nb k.1 ]
    | inr q ↦ let u = en.before in let v = end_above_floor (epoch_of n) en.basis.digest in omega arith
  ]

  -- what a ballot from b on says of n is x
  same_item : (n b g a : ℕ) (x z : What) → Older n b g x → Says hs made l b n x → b ≤ a → a < g → Says hs made l a n z → z ≡ x
  unfolding Older
  same_item n b g a x z old sx ba ag sz = elim (cases_order b a) [
    | inl q ↦ says_once hs made l b n z x A P (subst (λ v. Says hs made l v n z) (sym q) sz) sx
    | inr (inl q) ↦ by_plan q sz
    | inr (inr q) ↦ absurd (omega arith)
  ] where
    by_plan : b < a → Says hs made l a n z → z ≡ x
    by_plan q (inl o) = absurd (own_late sx o.own q) where
      own_late : Says hs made l b n x → a ≡ epoch_of n → b < a → ⊥
      own_late (inl p) e r = let u = p.own in omega arith
      own_late (inr p) e r = let u = p.later in omega arith
    by_plan q (inr o) = elim (old a o.basis q ag o.planned) [
      | inl k ↦ let e : Some z ≡ Some x = sym o.item ∙ k in cc
      | inr k ↦ absurd (let h = plan_shape (epoch_of n) o.basis.loss o.basis.digest (esn_of n) z o.item in let u = h.above in omega arith)
    ]

  same_number : (n : ℕ) → numbered (epoch_of n) (esn_of n) ≡ n
  same_number n = omega arith

  -- a bridge below n, of a ballot between, can't be
  no_bridge_below : (n b g : ℕ) (x : What) → Older n b g x → Says hs made l b n x → (x ≡ Bridge → ⊥) → (f : Entry) → f.ballot < g → b ≤ f.ballot → f.number < n → f.what ≡ Bridge → epoch_of f.number ≡ epoch_of n → Says hs made l f.ballot f.number f.what → ⊥
  unfolding Older
  no_bridge_below n b g x old sx nb f fg bf below br ep (inl o) = let z : Bridge ≡ Rec o.payload = sym br ∙ o.is in cc
  no_bridge_below n b g x old sx nb f fg bf below br ep (inr o) =
      let h = plan_shape (epoch_of f.number) o.basis.loss o.basis.digest (esn_of f.number) f.what o.item in
      let u : esn_of f.number < esn_of n = omega arith in
      elim h.kind [
        | inl k ↦ content_no_bridge o.basis.loss (best (numbered (epoch_of f.number) (esn_of f.number)) o.basis.digest) (sym k.1 ∙ br)
        | inr k ↦ let z = k.0 in
            let pl : In (plan_of l (epoch_of n) f.ballot o.basis) made = subst (λ v. In (plan_of l v f.ballot o.basis) made) ep o.planned in
            let en : plan_end (epoch_of n) o.basis.digest < esn_of n = subst (λ v. plan_end v o.basis.digest < esn_of n) ep (omega arith) in
            elim (cases_order b f.ballot) [
              | inl q ↦ at_own sx q pl en
              | inr (inl q) ↦ no_end n b g x old nb (record { ballot = f.ballot; basis = o.basis; planned = pl; above = q; below = fg; before = en })
              | inr (inr q) ↦ omega arith
            ]
      ] where
        at_own : Says hs made l b n x → b ≡ f.ballot → In (plan_of l (epoch_of n) f.ballot o.basis) made → plan_end (epoch_of n) o.basis.digest < esn_of n → ⊥
        at_own (inl w) q pl en = let a = w.own in let c = o.later in let d = ep in omega arith
        at_own (inr w) q pl en =
            let e : w.basis ≡ o.basis = P l (epoch_of n) f.ballot w.basis o.basis (subst (λ v. In (plan_of l (epoch_of n) v w.basis) made) q w.planned) pl in
            let h = plan_shape (epoch_of n) o.basis.loss o.basis.digest (esn_of n) x (subst (λ (v : Basis). plan_at (epoch_of n) v (esn_of n) ≡ Some x) e w.item) in
            elim h.kind [ inl k ↦ (let y = k.0 in omega arith) | inr k ↦ (let y = k.0 in omega arith) ]

  -- one step of the induction
  agrees_step : (n b g : ℕ) (x : What) (d : Basis) → Older n b g x → O (epoch_of n) → esn_of n < last_esn → b < g → In (plan_of l (epoch_of n) g d) made → d.loss ≡ false → Chosen (s (epoch_of n)) sent l n b → Says hs made l b n x → (x ≡ Bridge → ⊥) → (x ≡ Plug → ⊥)
      → plan_floor (epoch_of n) d.digest < esn_of n → plan_at (epoch_of n) d (esn_of n) ≡ Some x
  agrees_step n b g x d old oe small lt i fd ch sx nb np above = shown (shared n b g d oe (let z = floor_lng (epoch_of n) d.digest in omega arith) lt i fd ch) where
    by_best : (f : Entry) → b ≤ f.ballot → best n d.digest ≡ Some f → plan_at (epoch_of n) d (esn_of n) ≡ Some x
    by_best f bf e =
        let r = best_of n d.digest f e in
        let z = ((F (epoch_of n) g d oe i fd).digest.told r.told r.in_digest).frozen f r.in_entries in
        elim r.whose [
          | inl q ↦
              let same : f.what ≡ x = same_item n b g f.ballot x f.what old sx bf z.below (subst (λ v. Says hs made l f.ballot v f.what) q z.says) in
              let nf : is_bridge f.what ≡ false = no_bridge f.what (λ w. nb (sym same ∙ w)) in
              let is_c : is_content (best f.number d.digest) ≡ true = subst (λ v. is_content (best v d.digest) ≡ true) (sym q) (ap is_content e ∙ ap not nf) in
              let top = top_least d.digest r.told f r.in_digest r.in_entries nf is_c in
              let en = end_above_top (epoch_of n) d.digest in
              let y : esn_of f.number ≡ esn_of n = ap esn_of q in
              plan_between (epoch_of n) d.loss d.digest (esn_of n) above (omega arith) ∙ ap Some (ap (λ k. content k (best (numbered (epoch_of n) (esn_of n)) d.digest)) fd ∙ (ap (λ v. content false (best v d.digest)) (same_number n) ∙ (ap (content false) e ∙ (content_is f nf (λ w. np (sym same ∙ w)) (λ w. says_kept hs made l b n x sx (sym same ∙ w)) ∙ same))))
          | inr q ↦ absurd (no_bridge_below n b g x old sx nb f z.below bf q.0 q.1 z.epoch z.says)
        ]

    shown : ((t : Told) × In t d.digest × Kept made l g t.trim t.entries n b) → plan_at (epoch_of n) d (esn_of n) ≡ Some x
    shown r = elim r.2 [
      | inl k ↦ absurd (let a = trim_covers (epoch_of n) n r.0.trim refl small k in let c = trim_place_up (epoch_of n) r.0.trim (digest_trim d.digest) (trim_least d.digest r.0 r.1) in let v = floor_trim (epoch_of n) d.digest in omega arith)
      | inr (inl k) ↦ let z = best_least n d.digest r.0 k.entry r.1 k.there k.number in let y = ranked (best n d.digest) k.entry.ballot z in let u = k.least in let v = y.2 in by_best y.0 (omega arith) y.1
      | inr (inr k) ↦ absurd (no_end n b g x old nb k)
    ]

  agrees_below : (k n b g : ℕ) (x : What) (d : Basis) → g ≤ k → O (epoch_of n) → esn_of n < last_esn → b < g → In (plan_of l (epoch_of n) g d) made → d.loss ≡ false → Chosen (s (epoch_of n)) sent l n b → Says hs made l b n x → (x ≡ Bridge → ⊥) → (x ≡ Plug → ⊥)
      → (plan_at (epoch_of n) d (esn_of n) ≡ Some x) ⊎ (esn_of n ≤ plan_floor (epoch_of n) d.digest)
  unfolding Older
  agrees_below zero n b g x d le oe small lt i fd ch sx nb np = absurd (omega arith)
  agrees_below (suc k) n b g x d le oe small lt i fd ch sx nb np = elim (cases_lt (plan_floor (epoch_of n) d.digest) (esn_of n)) [
    | inl above ↦ inl (agrees_step n b g x d (λ a f ba ag j. agrees_below k n b a x f (omega arith) oe small ba j (last (epoch_of n) a g f d j i ag fd) ch sx nb np) oe small lt i fd ch sx nb np above)
    | inr below ↦ inr below
  ]

  -- what is chosen is the item of each plan of a greater ballot, or is trimmed or known good there
  pub agrees : (n b g : ℕ) (x : What) (d : Basis) → O (epoch_of n) → esn_of n < last_esn → b < g → In (plan_of l (epoch_of n) g d) made → d.loss ≡ false → Chosen (s (epoch_of n)) sent l n b → Says hs made l b n x → (x ≡ Bridge → ⊥) → (x ≡ Plug → ⊥)
      → (plan_at (epoch_of n) d (esn_of n) ≡ Some x) ⊎ (esn_of n ≤ plan_floor (epoch_of n) d.digest)
  agrees n b g x d oe small lt i fd ch sx nb np = agrees_below g n b g x d (omega arith) oe small lt i fd ch sx nb np
