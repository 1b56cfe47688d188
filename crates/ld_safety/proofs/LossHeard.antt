-- A node that stored a number for its own epoch's ballot, or for a plan that found what it says, and is whole in a loss plan's digest, is heard there: the plan says the number's record, or a plug in its place, unless it is trimmed or known good.
use Rattle.std.proofs.Common.{◌≡◌, ◌∙◌, ◌⊎◌, ◌≤◌, ◌<◌, ℕ, zero, suc, inl, inr, refl, ap, sym, subst, true, false, not, List, Some, arith}
use Rattle.std.proofs.lemmas.Bool.{cases_Bool, cases_order, cases_lt}
use Rattle.ld_table.specs.Words.{is_in}
use Rattle.ld_lsn.specs.Number.{epoch_of, esn_of, numbered, last_esn}
use Rattle.ld_config.specs.declared.config.Config.{Config}
use Rattle.ld_msg.specs.declared.msg.What.{What}
use Rattle.ld_msg.specs.declared.msg.What.TheVariants.{Rec, Bridge}
use Rattle.ld_msg.specs.declared.msg.Entry.{Entry}
use Rattle.ld_msg.specs.declared.msg.Body.TheVariants as bodies
use Rattle.ld_msg.specs.Digest.{Told, best, content, is_content, is_bridge, plan_item, plan_end, plan_floor, digest_trim, digest_lng}
use Rattle.ld_machine.specs.Config.{fixed_of, fixed_at}
use Rattle.ld_machine.specs.Facts.{Happened}
use Rattle.ld_machine.specs.World.{World, In, from_node}
use Rattle.ld_safety.proofs.Lists.{Some_inj, not_both}
use Rattle.ld_safety.proofs.Plans.{plan_shape, plan_between, content_no_bridge, best_of, best_least, ranked, floor_lng, floor_trim, trim_least, end_above_top, top_least, no_bridge}
use Rattle.ld_safety.proofs.LossPlans.{as_loss, loss_twice, loss_content, loss_no_bridge, not_below, floor_not_below, same_number}
use Rattle.ld_safety.proofs.Protocol.{Basis, plan_of, plan_at, Says, StoredBy, Ends, AppendsOnce, says_once}
use Rattle.ld_safety.proofs.Agreement.{trim_covers, trim_place_up}
use Rattle.ld_safety.proofs.Plannings.{WhyMade, LossMade, loss_nodes}
use Rattle.ld_safety.proofs.Along.{Along}
use Rattle.ld_safety.proofs.Holes.{node_told}

-- ---- nodes in digests of loss plans ----
module _ (c : Config) (hs : List Happened) (w : World) (R : Along c hs w) (l e y : ℕ) (member : In y (fixed_at c w.state.register l e)) where
  made_so : (d : Basis) → d.loss ≡ true → WhyMade (fixed_of c w.state.register l e) d → LossMade (fixed_of c w.state.register l e) d
  made_so d lo (inl h) = absurd (not_both d.loss lo h.0)
  made_so d lo (inr h) = h.1

  -- a node that had something to tell is whole
  pub whole_told : (g : ℕ) (d : Basis) → In (plan_of l e g d) w.made → d.loss ≡ true → is_in y d.gone ≡ false → (t : Told) × In t d.digest × (t.node ≡ y) × (t.whole ≡ true)
  whole_told g d i lo ng =
      let p = R.plans l e g d i in
      let t = node_told y d.digest (fixed_at c w.state.register l e) (loss_nodes c hs w.state.network.sent w.made w.state.register l e g d p lo) member in
      elim ((made_so d lo p.why).told t.0 t.1) [ inl k ↦ (t.0, t.1, t.2, k.0) | inr k ↦ absurd (not_both (is_in y d.gone) (subst (λ z. is_in z d.gone ≡ true) t.2 k) ng) ]

  -- it had so as each lesser loss plan was made
  pub told_before : (g h : ℕ) (d f : Basis) → In (plan_of l e g d) w.made → In (plan_of l e h f) w.made → d.loss ≡ true → f.loss ≡ true → g < h → is_in y f.gone ≡ false → is_in y d.gone ≡ false
  told_before g h d f i j lo hi lt ng = elim (cases_Bool (is_in y d.gone)) [
    | inr t ↦ t
    | inl t ↦ absurd (let u = whole_told h f j hi ng in
        let p = R.plans l e h f j in
        let good = p.good_most in
        let v = (p.digest.told u.0 u.1).covers (numbered e last_esn) (omega arith) (omega arith) (inr u.3) in
        let z = (R.losses l e g d i lo).pages y h v.from v.upto v.trim v.lng v.entries t (subst (λ k. In (from_node l k h (bodies.DigestPage v.from v.upto v.trim v.lng v.entries)) w.state.network.sent) u.2 v.page) v.epoch in
        omega arith)
  ]

-- ---- what it stored ----
module _ (c : Config) (hs : List Happened) (w : World) (R : Along c hs w) (A : AppendsOnce hs) (l n b y : ℕ) (x : What) (nb : x ≡ Bridge → ⊥) (small : esn_of n < last_esn) (says : Says hs w.made l b n x)
    (found_there : (d : Basis) → In (plan_of l (epoch_of n) b d) w.made → d.loss ≡ false)
    (found : (g : ℕ) (d : Basis) → In (plan_of l (epoch_of n) g d) w.made → d.loss ≡ false → b < g → (plan_at (epoch_of n) d (esn_of n) ≡ Some x) ⊎ (esn_of n ≤ plan_floor (epoch_of n) d.digest))
    (member : In y (fixed_at c w.state.register l (epoch_of n))) (stored : StoredBy w.state.network.sent l y n b) where
  -- what a loss plan says of the number
  abbrev pub Heard : Basis → Type 0
  Heard d = (esn_of n ≤ plan_floor (epoch_of n) d.digest) ⊎ ((plan_at (epoch_of n) d (esn_of n) ≡ Some (as_loss x)) × (esn_of n < plan_end (epoch_of n) d.digest))

  record HasShown (d : Basis) : Type 0 where
    told : Told
    entry : Entry
    in_digest : In told d.digest
    in_entries : In entry told.entries
    number : entry.number ≡ n
    least : b ≤ entry.ballot

  -- its page accounts for the number
  accounts : (g : ℕ) (d : Basis) → In (plan_of l (epoch_of n) g d) w.made → d.loss ≡ true → is_in y d.gone ≡ false → b < g → (esn_of n ≤ plan_floor (epoch_of n) d.digest) ⊎ (HasShown d ⊎ Ends w.made l b g n)
  accounts g d i lo ng lt = elim (cases_lt (digest_lng d.digest) (esn_of n)) [
    | inr k ↦ inl (let z = floor_lng (epoch_of n) d.digest in omega arith)
    | inl k ↦ (let u = whole_told c hs w R l (epoch_of n) y member g d i lo ng in let p = R.plans l (epoch_of n) g d i in
        elim (p.seen u.0 u.1 u.3 n b refl k lt (subst (λ z. StoredBy w.state.network.sent l z n b) (sym u.2) stored)) [
          | inl q ↦ inl (let a = trim_covers (epoch_of n) n u.0.trim refl small q in let z = trim_place_up (epoch_of n) u.0.trim (digest_trim d.digest) (trim_least d.digest u.0 u.1) in let v = floor_trim (epoch_of n) d.digest in omega arith)
          | inr (inl q) ↦ inr (inl (record { told = u.0; entry = q.entry; in_digest = u.1; in_entries = q.there; number = q.number; least = q.least }))
          | inr (inr q) ↦ inr (inr q)
        ])
  ]

  -- what the best statement is
  abbrev Ours : What → Type 0
  Ours z = (z ≡ x) ⊎ (z ≡ as_loss x)

  ours_no_bridge : (z : What) → Ours z → z ≡ Bridge → ⊥
  ours_no_bridge z (inl q) h = nb (sym q ∙ h)
  ours_no_bridge z (inr q) h = loss_no_bridge x (sym q ∙ h)

  ours_loss : (z : What) → Ours z → as_loss z ≡ as_loss x
  ours_loss z (inl q) = ap as_loss q
  ours_loss z (inr q) = ap as_loss q ∙ loss_twice x

  -- the ballot itself doesn't end below the number
  own_end : (d : Basis) → In (plan_of l (epoch_of n) b d) w.made → plan_end (epoch_of n) d.digest < esn_of n → ⊥
  own_end d i en = elim says [
    | inl o ↦ (let z = (R.plans l (epoch_of n) b d i).later in let q = o.own in omega arith)
    | inr o ↦ let q : o.basis ≡ d = R.once l (epoch_of n) b o.basis d o.planned i in not_below (epoch_of n) (esn_of n) d.loss d.digest x (subst (λ (v : Basis). plan_at (epoch_of n) v (esn_of n) ≡ Some x) q o.item) en
  ]

  late : epoch_of n ≤ b
  late = elim says [ inl o ↦ (let z = o.own in omega arith) | inr o ↦ (let z = o.later in omega arith) ]

  -- one step of the induction
  module _ (g : ℕ) (d : Basis) (IH : (h : ℕ) (k : Basis) → b < h → h < g → In (plan_of l (epoch_of n) h k) w.made → k.loss ≡ true → is_in y k.gone ≡ false → Heard k) (lt : b < g) (i : In (plan_of l (epoch_of n) g d) w.made) (lo : d.loss ≡ true) (ng : is_in y d.gone ≡ false) where
    before : (h : ℕ) (k : Basis) → b < h → h < g → In (plan_of l (epoch_of n) h k) w.made → k.loss ≡ true → Heard k
    before h k bh hg j t = IH h k bh hg j t (told_before c hs w R l (epoch_of n) y member h g k d j i t lo hg ng)

    -- no plan before this one ends below the number
    ends_before : (h : ℕ) (k : Basis) → In (plan_of l (epoch_of n) h k) w.made → b ≤ h → h < g → plan_end (epoch_of n) k.digest < esn_of n → ⊥
    ends_before h k j bh hg en = elim (cases_order b h) [
      | inl q ↦ own_end k (subst (λ v. In (plan_of l (epoch_of n) v k) w.made) (sym q) j) en
      | inr (inl q) ↦ elim (cases_Bool k.loss) [
        | inl t ↦ elim (before h k q hg j t) [ inl z ↦ floor_not_below (epoch_of n) (esn_of n) k.digest z en | inr z ↦ (let v = z.1 in omega arith) ]
        | inr t ↦ elim (found h k j t q) [ inl z ↦ not_below (epoch_of n) (esn_of n) k.loss k.digest x z en | inr z ↦ floor_not_below (epoch_of n) (esn_of n) k.digest z en ]
      ]
      | inr (inr q) ↦ omega arith
    ]

    -- what an entry of the number says
    ours : (a : ℕ) (z : What) → b ≤ a → a < g → Says hs w.made l a n z → Ours z
    ours a z ba ag s = elim (cases_order b a) [
      | inl q ↦ inl (says_once hs w.made l b n z x A R.once (subst (λ v. Says hs w.made l v n z) (sym q) s) says)
      | inr (inl q) ↦ by_plan q s
      | inr (inr q) ↦ absurd (omega arith)
    ] where
      by_plan : b < a → Says hs w.made l a n z → Ours z
      by_plan q (inl o) = absurd (let u = o.own in let v = late in omega arith)
      by_plan q (inr o) = let up = (plan_shape (epoch_of n) o.basis.loss o.basis.digest (esn_of n) z o.item).above in elim (cases_Bool o.basis.loss) [
        | inl t ↦ elim (before a o.basis q ag o.planned t) [ inl k ↦ absurd (omega arith) | inr k ↦ inr (Some_inj (sym o.item ∙ k.0)) ]
        | inr t ↦ elim (found a o.basis o.planned t q) [ inl k ↦ inl (Some_inj (sym o.item ∙ k)) | inr k ↦ absurd (omega arith) ]
      ]

    -- a bridge below the number is none of these
    bridged : (f : Entry) → b ≤ f.ballot → f.ballot < g → f.number < n → f.what ≡ Bridge → epoch_of f.number ≡ epoch_of n → Says hs w.made l f.ballot f.number f.what → ⊥
    bridged f ba ag below br ep (inl o) = let z : Bridge ≡ Rec o.payload = sym br ∙ o.is in cc
    bridged f ba ag below br ep (inr o) =
        let h = plan_shape (epoch_of f.number) o.basis.loss o.basis.digest (esn_of f.number) f.what o.item in
        let u : esn_of f.number < esn_of n = omega arith in
        elim h.kind [
          | inl k ↦ below_content k.1
          | inr k ↦ let z = k.0 in ends_before f.ballot o.basis (subst (λ v. In (plan_of l v f.ballot o.basis) w.made) ep o.planned) ba ag (subst (λ v. plan_end v o.basis.digest < esn_of n) ep (omega arith))
        ] where
          below_content : f.what ≡ content o.basis.loss (best (numbered (epoch_of f.number) (esn_of f.number)) o.basis.digest) → ⊥
          below_content k = content_no_bridge o.basis.loss (best (numbered (epoch_of f.number) (esn_of f.number)) o.basis.digest) (sym k ∙ br)

    -- the best statement is a content
    by_entry : (f : Entry) (t : Told) → best n d.digest ≡ Some f → In t d.digest → In f t.entries → f.number ≡ n → Ours f.what → Heard d
    by_entry f t bs it ie num o = elim (cases_lt (plan_floor (epoch_of n) d.digest) (esn_of n)) [
      | inr k ↦ inl k
      | inl k ↦
          let nob : is_bridge f.what ≡ false = no_bridge f.what (ours_no_bridge f.what o) in
          let con : is_content (best f.number d.digest) ≡ true = subst (λ v. is_content (best v d.digest) ≡ true) (sym num) (ap is_content bs ∙ ap not nob) in
          let top = top_least d.digest t f it ie nob con in
          let en = end_above_top (epoch_of n) d.digest in
          let es = ap esn_of num in
          let hi : esn_of n < plan_end (epoch_of n) d.digest = omega arith in
          let bn : best (numbered (epoch_of n) (esn_of n)) d.digest ≡ Some f = subst (λ v. best v d.digest ≡ Some f) (sym (same_number n)) bs in
          let says_so : plan_item (epoch_of n) true d.digest (esn_of n) ≡ Some (as_loss x) = plan_between (epoch_of n) true d.digest (esn_of n) k hi ∙ ap Some (ap (content true) bn ∙ (loss_content f.what ∙ ours_loss f.what o)) in
          inr (subst (λ v. plan_item (epoch_of n) v d.digest (esn_of n) ≡ Some (as_loss x)) (sym lo) says_so, hi)
    ]

    by_best : (f : Entry) → b ≤ f.ballot → best n d.digest ≡ Some f → Heard d
    by_best f ba bs =
        let r = best_of n d.digest f bs in
        let z = ((R.plans l (epoch_of n) g d i).digest.told r.told r.in_digest).frozen f r.in_entries in
        elim r.whose [
          | inl q ↦ by_entry f r.told bs r.in_digest r.in_entries q (ours f.ballot f.what ba z.below (subst (λ v. Says hs w.made l f.ballot v f.what) q z.says))
          | inr q ↦ absurd (bridged f ba z.below q.0 q.1 z.epoch z.says)
        ]

    heard_step : Heard d
    heard_step = elim (accounts g d i lo ng lt) [
      | inl k ↦ inl k
      | inr (inl k) ↦ let r = ranked (best n d.digest) k.entry.ballot (best_least n d.digest k.told k.entry k.in_digest k.in_entries k.number) in let v = k.least in let u = r.2 in by_best r.0 (omega arith) r.1
      | inr (inr k) ↦ absurd (let v = k.above in ends_before k.ballot k.basis k.planned (omega arith) k.below k.before)
    ]

  heard_by : (fuel g : ℕ) (d : Basis) → g < fuel → b < g → In (plan_of l (epoch_of n) g d) w.made → d.loss ≡ true → is_in y d.gone ≡ false → Heard d
  heard_by zero g d fu lt i lo ng = absurd (omega arith)
  heard_by (suc fuel) g d fu lt i lo ng = heard_step g d (λ h k bh hg j t nk. heard_by fuel h k (omega arith) bh j t nk) lt i lo ng

  -- a node that had something to tell is heard
  pub heard : (g : ℕ) (d : Basis) → b < g → In (plan_of l (epoch_of n) g d) w.made → d.loss ≡ true → is_in y d.gone ≡ false → Heard d
  heard g d lt i lo ng = heard_by (suc g) g d (omega arith) lt i lo ng

  -- no loss plan ends below the number
  pub not_ended : (g : ℕ) (d : Basis) → b < g → In (plan_of l (epoch_of n) g d) w.made → d.loss ≡ true → is_in y d.gone ≡ false → plan_end (epoch_of n) d.digest < esn_of n → ⊥
  not_ended g d lt i lo ng en = elim (heard g d lt i lo ng) [ inl z ↦ floor_not_below (epoch_of n) (esn_of n) d.digest z en | inr z ↦ (let v = z.1 in omega arith) ]

  -- and none has a bridge at it
  pub not_bridged : (g : ℕ) (d : Basis) → b < g → In (plan_of l (epoch_of n) g d) w.made → d.loss ≡ true → is_in y d.gone ≡ false → plan_at (epoch_of n) d (esn_of n) ≡ Some Bridge → ⊥
  not_bridged g d lt i lo ng it = let up = (plan_shape (epoch_of n) d.loss d.digest (esn_of n) Bridge it).above in
      elim (heard g d lt i lo ng) [ inl z ↦ omega arith | inr z ↦ loss_no_bridge x (Some_inj (sym z.0 ∙ it)) ]
