-- Where entries stand: at a number that the sequencer of their epoch gave, one above it or above a point, or at the epoch's end; so each page ends at a mark.
use Rattle.std.proofs.Common.{◌≡◌, ◌∙◌, ◌⊎◌, ◌≤◌, ◌<◌, ℕ, suc, ◌+◌, ◌-◌, max, min, inl, inr, refl, ap, sym, subst, Bool, true, false, ◌&&◌, ◌==◌, cond, if◌then◌else◌, nat_lt, List, [], ◌∷◌, length, map, Some, arith, eq-eqb}
use Rattle.std.proofs.lemmas.Bool.{cases_Bool, cases_lt, and_from, eqb-true, ltb-false}
use Rattle.std.specs.Map as maps
use Rattle.ld_table.specs.Named.{same, find_named}
use Rattle.ld_table.specs.Words.{numbers_from}
use Rattle.ld_lsn.specs.Number.{epoch_of, esn_of, numbered, last_esn}
use Rattle.ld_config.specs.declared.config.Config.{Config}
use Rattle.ld_msg.specs.declared.msg.What.{What}
use Rattle.ld_msg.specs.declared.msg.What.TheVariants.{Rec, Bridge}
use Rattle.ld_msg.specs.declared.msg.Entry.{Entry}
use Rattle.ld_msg.specs.declared.msg.Body.TheVariants as bodies
use Rattle.ld_msg.specs.Digest.{Told, is_bridge, top_place, trim_place, digest_trim, digest_lng, plan_end, plan_floor, best}
use Rattle.ld_msg.specs.Sequencer.{Sequencer}
use Rattle.ld_machine.specs.Config.{all_nodes}
use Rattle.ld_machine.specs.Facts.{Happened}
use Rattle.ld_machine.specs.World.{World, In, from_node}
use Rattle.ld_safety.proofs.Lists.{cond_both, not_none, Some_inj}
use Rattle.ld_safety.proofs.Numbers.{whose}
use Rattle.ld_safety.proofs.Base.{counts_of}
use Rattle.ld_safety.proofs.Given.{AppendedBy, GivenTrim}
use Rattle.ld_safety.proofs.GivenSteps.{BaseGiven}
use Rattle.ld_safety.proofs.Along.{Along}
use Rattle.ld_safety.proofs.Said.{good_low}
use Rattle.ld_safety.proofs.Settled.{LngFine}
use Rattle.ld_safety.proofs.Protocol.{Basis, plan_of, Says, Frozen}
use Rattle.ld_safety.proofs.Plans.{plan_shape, content_no_bridge, bridge_what, trim_has, lng_has}
use Rattle.ld_calm.proofs.Measure.{page_marks, numbers_marks, points_of, given_in}
use Rattle.ld_calm.proofs.Marked.{in_left, in_right, in_numbers, in_above}
use Rattle.ld_calm.proofs.Tops.{said_most, digest_top}
use Rattle.ld_calm.proofs.PageEnds.{Ends}
use Rattle.ld_calm.proofs.Points.{AllPoints, point_of_trim}

-- ---- the numbers that a log's sequencers of an epoch gave ----

-- the most that one of them gave
abbrev pub most_in : ℕ → ℕ → List (List ℕ × Sequencer) → ℕ
most_in l e [] = 0
most_in l e (q ∷ qs) = max (if (q.1.log == l) && (q.1.epoch == e) then q.1.lng + length q.1.appends else 0) (most_in l e qs)

pub most_given : (l e : ℕ) (qs : List (List ℕ × Sequencer)) → most_in l e qs ≤ given_in l e qs
most_given l e [] = omega arith
most_given l e (q ∷ qs) = let ih : most_in l e qs ≤ given_in l e qs = most_given l e qs in omega arith

pub most_there : (l e : ℕ) (name : List ℕ) (p : Sequencer) (qs : List (List ℕ × Sequencer)) → find_named name qs ≡ Some p → p.log ≡ l → p.epoch ≡ e → p.lng + length p.appends ≤ most_in l e qs
unfolding find_named
most_there l e name p [] f a b = absurd (not_none f)
most_there l e name p (q ∷ qs) f a b = by_same (same name q.0) f (λ g. most_there l e name p qs g a b) where
  here : q.1 ≡ p → p.lng + length p.appends ≤ (if (q.1.log == l) && (q.1.epoch == e) then q.1.lng + length q.1.appends else 0)
  here i = let t : ((q.1.log == l) && (q.1.epoch == e)) ≡ true = and_from (q.1.log == l) (q.1.epoch == e) (eq-eqb q.1.log l (ap (λ (x : Sequencer). x.log) i ∙ a)) (eq-eqb q.1.epoch e (ap (λ (x : Sequencer). x.epoch) i ∙ b)) in
      let v : p.lng + length p.appends ≡ q.1.lng + length q.1.appends = ap (λ (x : Sequencer). x.lng + length x.appends) (sym i) in
      subst (λ k. p.lng + length p.appends ≤ (if k then q.1.lng + length q.1.appends else 0)) (sym t) (omega arith)

  by_same : (t : Bool) → cond t (Some q.1) (maps.lookup (same name) qs) ≡ Some p → (maps.lookup (same name) qs ≡ Some p → p.lng + length p.appends ≤ most_in l e qs) → p.lng + length p.appends ≤ most_in l e (q ∷ qs)
  by_same true g ih = let z = here (Some_inj g) in omega arith
  by_same false g ih = let z = ih g in omega arith

-- each of them is a mark of items
pub most_marked : (l e k : ℕ) (qs : List (List ℕ × Sequencer)) → 0 < k → k ≤ most_in l e qs → In (numbered e k) (numbers_marks l qs)
most_marked l e k [] a b = absurd (omega arith)
most_marked l e k (q ∷ qs) a b = elim (cases_lt (most_in l e qs) k) [
  | inl h ↦ in_left (numbered e k) (if q.1.log == l then numbers_from (numbered q.1.epoch 1) (q.1.lng + length q.1.appends) else []) (numbers_marks l qs) (here (q.1.log == l) (q.1.epoch == e) refl refl (omega arith))
  | inr h ↦ in_right (numbered e k) (if q.1.log == l then numbers_from (numbered q.1.epoch 1) (q.1.lng + length q.1.appends) else []) (numbers_marks l qs) (most_marked l e k qs a (omega arith))
] where
  here : (t u : Bool) → (q.1.log == l) ≡ t → (q.1.epoch == e) ≡ u → k ≤ (if t && u then q.1.lng + length q.1.appends else 0) → In (numbered e k) (if t then numbers_from (numbered q.1.epoch 1) (q.1.lng + length q.1.appends) else [])
  here true true x y h = let j : q.1.epoch ≡ e = eqb-true q.1.epoch e y in let s : numbered q.1.epoch 1 + (k - 1) ≡ numbered e k = omega arith in
      subst (λ z. In z (numbers_from (numbered q.1.epoch 1) (q.1.lng + length q.1.appends))) s (in_numbers (numbered q.1.epoch 1) (q.1.lng + length q.1.appends) (k - 1) (omega arith))
  here true false x y h = absurd (omega arith)
  here false u x y h = absurd (omega arith)

-- ---- a trim as a place ----

trim_cases : (e t : ℕ) → (trim_place e t ≡ 0) ⊎ ((trim_place e t ≡ last_esn - 1) ⊎ (numbered e (trim_place e t) ≡ t))
trim_cases e t = cond_both (nat_lt (epoch_of t) e) 0 (if nat_lt e (epoch_of t) then last_esn - 1 else min (esn_of t) (last_esn - 1)) (λ x. (x ≡ 0) ⊎ ((x ≡ last_esn - 1) ⊎ (numbered e x ≡ t))) (λ a. inl refl)
    (λ a. cond_both (nat_lt e (epoch_of t)) (last_esn - 1) (min (esn_of t) (last_esn - 1)) (λ x. (x ≡ 0) ⊎ ((x ≡ last_esn - 1) ⊎ (numbered e x ≡ t))) (λ b. inr (inl refl))
    (λ b. let x = ltb-false (epoch_of t) e a in let y = ltb-false e (epoch_of t) b in elim (cases_lt (esn_of t) last_esn) [ inl h ↦ inr (inr (omega arith)) | inr h ↦ inr (inl (omega arith)) ]))

-- ---- in a state of a run ----
module _ (c : Config) (hs : List Happened) (w : World) (B : BaseGiven c hs w × Along c hs w) (P : AllPoints c hs w) (some : (n : ℕ) × In n (all_nodes c)) where
  abbrev given : ℕ → ℕ → ℕ
  given l e = most_in l e w.state.sequencers

  -- an append's place
  pub own_most : (l m : ℕ) (p : List ℕ) → AppendedBy hs l m p → esn_of m ≤ given l (epoch_of m)
  own_most l m p a =
      let s = whose hs w.state.sequencers w.state.register B.0.0.0.1 l m p a.0 a.1 in
      let k = counts_of c hs w B.0.0 a.1.name s.sequencer s.named in
      let b = k.below m a.0 a.1.told in let lo = b.0 in let hi = b.1 in let z = k.small in
      let e : epoch_of m ≡ s.sequencer.epoch = omega arith in
      let t : s.sequencer.lng + length s.sequencer.appends ≤ given l (epoch_of m) = most_there l (epoch_of m) a.1.name s.sequencer w.state.sequencers s.named s.log (sym e) in omega arith

  pub own : (l e m : ℕ) (p : List ℕ) → AppendedBy hs l m p → epoch_of m ≡ e → esn_of m ≤ given l e
  own l e m p a q = subst (λ x. esn_of m ≤ given l x) q (own_most l m p a)

  pub frozen : (l e b : ℕ) (d : Basis) → In (plan_of l e b d) w.made → (t : Told) → In t d.digest → (f : Entry) → In f t.entries → Frozen hs w.made l e b f
  frozen l e b d i t j f k = ((B.1.plans l e b d i).digest.told t j).frozen f k

  -- what any ballot says of a number, but for a bridge
  pub says_most : (l b n : ℕ) (x : What) → Says hs w.made l b n x → (x ≡ Bridge → ⊥) → esn_of n ≤ given l (epoch_of n)
  says_most l b n x s h = said_most hs w.made l (epoch_of n) (given l (epoch_of n)) (own l (epoch_of n)) (frozen l (epoch_of n)) (suc b) b n x (omega arith) refl s h

  -- what is known good
  pub good_most : (l e g : ℕ) → LngFine c hs w.state.network.sent w.state.register l e g → g ≤ given l e
  good_most l e g h = let z = good_low c hs w.state.network.sent w.state.register l e g h in elim (cases_lt 0 g) [
    | inl p ↦ (let a = h (numbered e g) (omega arith) (omega arith) (omega arith) in let k = own l e (numbered e g) a.payload a.appended (omega arith) in omega arith)
    | inr p ↦ omega arith
  ]

  -- ---- plans ----
  module _ (l e b : ℕ) (d : Basis) (i : In (plan_of l e b d) w.made) where
    pub top_most : top_place d.digest d.digest ≤ given l e
    top_most = digest_top hs w.made l e (given l e) (own l e) (frozen l e) b d.digest (frozen l e b d i)

    pub lng_most : digest_lng d.digest ≤ given l e
    lng_most = lng_has (λ k. k ≤ given l e) d.digest (omega arith) (λ t j. elim ((B.1.plans l e b d i).digest.told t j).known [
      | inl z ↦ omega arith
      | inr p ↦ good_most l e t.lng (subst (λ x. LngFine c hs w.state.network.sent w.state.register l x t.lng) p.epoch (B.1.said.sent _ p.page).0.0.good)
    ])

    pub trim_given : GivenTrim hs l (digest_trim d.digest)
    trim_given = trim_has (GivenTrim hs l) d.digest (inl refl) (λ t j. elim ((B.1.plans l e b d i).digest.told t j).trimmed [
      | inl z ↦ inl z
      | inr p ↦ (B.0.1.sent _ p.page).0.0.trim
    ])

    -- its bridge
    pub end_marked : In (numbered e (plan_end e d.digest)) (page_marks c w.state l e)
    unfolding plan_end plan_floor
    end_marked = elim (cases_lt (given l e) (trim_place e (digest_trim d.digest))) [
      | inl h ↦ (let a = top_most in let g = lng_most in let k : plan_end e d.digest ≡ trim_place e (digest_trim d.digest) + 1 = omega arith in elim (trim_cases e (digest_trim d.digest)) [
        | inl z ↦ absurd (omega arith)
        | inr (inl z) ↦ at_last (omega arith)
        | inr (inr z) ↦ at_point (omega arith) (omega arith)
      ])
      | inr h ↦ (let a = top_most in let g = lng_most in let m = most_given l e w.state.sequencers in at_given (max (top_place d.digest d.digest) (max (trim_place e (digest_trim d.digest)) (digest_lng d.digest))) (omega arith))
    ] where
      at_last : plan_end e d.digest ≡ last_esn → In (numbered e (plan_end e d.digest)) (page_marks c w.state l e)
      at_last q = in_right (numbered e (plan_end e d.digest)) (numbers_from (numbered e 1) (given_in l e w.state.sequencers + 1)) _ (in_right (numbered e (plan_end e d.digest)) (map (λ t. t + 1) (points_of (all_nodes c) l w.state.network.sent)) _ (inl (ap (numbered e) q)))

      at_point : numbered e (plan_end e d.digest) ≡ digest_trim d.digest + 1 → (digest_trim d.digest ≡ 0 → ⊥) → In (numbered e (plan_end e d.digest)) (page_marks c w.state l e)
      at_point q n = in_right (numbered e (plan_end e d.digest)) (numbers_from (numbered e 1) (given_in l e w.state.sequencers + 1)) _ (in_left (numbered e (plan_end e d.digest)) (map (λ t. t + 1) (points_of (all_nodes c) l w.state.network.sent)) _
          (subst (λ x. In x (map (λ t. t + 1) (points_of (all_nodes c) l w.state.network.sent))) (sym q) (in_above (digest_trim d.digest) (points_of (all_nodes c) l w.state.network.sent)
          (elim (point_of_trim c hs w P some l (digest_trim d.digest) trim_given) [ inl z ↦ absurd (n z) | inr z ↦ z ]))))

      at_given : (k : ℕ) → k ≤ given_in l e w.state.sequencers → In (numbered e (suc k)) (page_marks c w.state l e)
      at_given k m = in_left (numbered e (suc k)) (numbers_from (numbered e 1) (given_in l e w.state.sequencers + 1)) _ (let q : numbered e 1 + k ≡ numbered e (suc k) = omega arith in
          subst (λ x. In x (numbers_from (numbered e 1) (given_in l e w.state.sequencers + 1))) q (in_numbers (numbered e 1) (given_in l e w.state.sequencers + 1) k (omega arith)))

  -- ---- entries ----

  -- what a ballot says stands at a mark
  pub says_marked : (l b n : ℕ) (x : What) → Says hs w.made l b n x → 0 < esn_of n → In n (page_marks c w.state l (epoch_of n))
  says_marked l b n x s h = elim (cases_Bool (is_bridge x)) [ inl t ↦ at_bridge (bridge_what x t) s | inr t ↦ at_number (says_most l b n x s (λ q. let z : is_bridge x ≡ true = ap is_bridge q in let y : true ≡ false = sym z ∙ t in cc)) ] where
    at_number : esn_of n ≤ given l (epoch_of n) → In n (page_marks c w.state l (epoch_of n))
    at_number m = let k = most_given l (epoch_of n) w.state.sequencers in in_left n (numbers_from (numbered (epoch_of n) 1) (given_in l (epoch_of n) w.state.sequencers + 1)) _ (let q : numbered (epoch_of n) 1 + (esn_of n - 1) ≡ n = omega arith in
        subst (λ x. In x (numbers_from (numbered (epoch_of n) 1) (given_in l (epoch_of n) w.state.sequencers + 1))) q (in_numbers (numbered (epoch_of n) 1) (given_in l (epoch_of n) w.state.sequencers + 1) (esn_of n - 1) (omega arith)))

    at_bridge : x ≡ Bridge → Says hs w.made l b n x → In n (page_marks c w.state l (epoch_of n))
    at_bridge q (inl o) = absurd (let z : Bridge ≡ Rec o.payload = sym q ∙ o.is in cc)
    at_bridge q (inr p) = elim (plan_shape (epoch_of n) p.basis.loss p.basis.digest (esn_of n) x p.item).kind [
      | inl k ↦ absurd (content_no_bridge p.basis.loss (best (numbered (epoch_of n) (esn_of n)) p.basis.digest) (sym k.1 ∙ q))
      | inr k ↦ (let y = k.0 in let v : numbered (epoch_of n) (plan_end (epoch_of n) p.basis.digest) ≡ n = omega arith in subst (λ m. In m (page_marks c w.state l (epoch_of n))) v (end_marked l (epoch_of n) b p.basis p.planned))
    ]

  -- each entry of a page
  pub entry_marked : (l y b from upto t lng : ℕ) (es : List Entry) → In (from_node l y b (bodies.DigestPage from upto t lng es)) w.state.network.sent → (f : Entry) → In f es → In f.number (page_marks c w.state l (epoch_of from))
  entry_marked l y b from upto t lng es i f j =
      let s = (B.1.said.sent _ i).0.0.entries f j in
      subst (λ e. In f.number (page_marks c w.state l e)) (B.1.bounded l y b from upto t lng es f i j).1 (says_marked l f.ballot f.number f.what s.says s.given.place.above)

  -- each page ends at a mark
  pub upto_marked : (l y b from upto t lng : ℕ) (es : List Entry) → In (from_node l y b (bodies.DigestPage from upto t lng es)) w.state.network.sent → Ends (bodies.DigestPage from upto t lng es) → In upto (page_marks c w.state l (epoch_of from))
  upto_marked l y b from upto t lng es i (inl q) = in_right upto (numbers_from (numbered (epoch_of from) 1) (given_in l (epoch_of from) w.state.sequencers + 1)) _ (in_right upto (map (λ t. t + 1) (points_of (all_nodes c) l w.state.network.sent)) _ (inl q))
  upto_marked l y b from upto t lng es i (inr f) = subst (λ k. In k (page_marks c w.state l (epoch_of from))) f.2 (entry_marked l y b from upto t lng es i f.0 f.1)
