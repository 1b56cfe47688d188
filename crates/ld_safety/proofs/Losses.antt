-- What a spent digest says of its nodes, and why no digest of a greater ballot is enough; what a loss plan says of a number.
use Rattle.std.proofs.Common.{◌≡◌, ◌∙◌, ◌⊎◌, ◌≤◌, ◌<◌, ℕ, suc, ◌+◌, inl, inr, refl, ap, sym, subst, Bool, true, false, not, ◌&&◌, ◌||◌, ◌==◌, nat_lt, cond, if◌then◌else◌, List, [], ◌∷◌, ◌++◌, map, filter, length, Option, Some, None, arith}
use Rattle.std.proofs.lemmas.Bool.{cases_Bool, and_parts, not-true, or_cases, or_left, or_right, eq-eqb, eqb-true, ltb-false, and_from}
use Rattle.ld_table.specs.Words.{is_in, with_one, how_many, all_of}
use Rattle.ld_ids.specs.declared.set.Spec.{Spec}
use Rattle.ld_ids.specs.Choice.{nodes_of}
use Rattle.ld_msg.specs.declared.msg.What.{What}
use Rattle.ld_msg.specs.declared.msg.What.TheVariants.{Rec, Hole, Bridge, Plug, Withheld}
use Rattle.ld_msg.specs.declared.msg.Entry.{Entry}
use Rattle.ld_msg.specs.Digest.{Told, enough, is_spent, content, record_or}
use Rattle.ld_machine.specs.World.{In}
use Rattle.ld_safety.proofs.Lists.{how_many-yes, how_many-no, count_share, count_mono, all_in, cond_both}

-- ---- counts ----

-- where each member passes one of two tests, the two pass as many as there are
count_cover : {X : Type 0} (p q : X → Bool) (xs : List X) → ((x : X) → In x xs → (p x ≡ true) ⊎ (q x ≡ true)) → length xs ≤ how_many p xs + how_many q xs
count_cover p q [] h = omega arith
count_cover p q (x ∷ xs) h = let ih : length xs ≤ how_many p xs + how_many q xs = count_cover p q xs (λ y i. h y (inr i)) in elim (cases_Bool (p x)) [
  | inl a ↦ elim (cases_Bool (q x)) [
    | inl b ↦ omega (arith, how_many-yes p x xs a, how_many-yes q x xs b)
    | inr b ↦ omega (arith, how_many-yes p x xs a, how_many-no q x xs b)
  ]
  | inr a ↦ elim (h x (inl refl)) [
    | inl b ↦ absurd (let z : true ≡ false = sym b ∙ a in cc)
    | inr b ↦ omega (arith, how_many-no p x xs a, how_many-yes q x xs b)
  ]
]

pub counted_nodes : (p : ℕ → Bool) (d : List Told) → how_many (λ (t : Told). p t.node) d ≡ how_many p (map (λ (t : Told). t.node) d)
counted_nodes p [] = refl
counted_nodes p (t ∷ d) = ap (λ k. if p t.node then suc k else k) (counted_nodes p d)

pub told_length : (d : List Told) → length (map (λ (t : Told). t.node) d) ≡ length d
told_length [] = refl
told_length (t ∷ d) = ap suc (told_length d)

pub in_filter : (p : ℕ → Bool) (y : ℕ) (xs : List ℕ) → In y xs → p y ≡ true → is_in y (filter p xs) ≡ true
in_filter p y [] i h = absurd i
in_filter p y (x ∷ xs) (inl e) h = subst (λ b. is_in y (cond b (x ∷ filter p xs) (filter p xs)) ≡ true) (sym (subst (λ z. p z ≡ true) e h)) (or_left (x == y) (is_in y (filter p xs)) (eq-eqb x y (sym e)))
in_filter p y (x ∷ xs) (inr i) h = let ih = in_filter p y xs i h in cond_both (p x) (x ∷ filter p xs) (filter p xs) (λ zs. is_in y zs ≡ true) (λ t. or_right (x == y) (is_in y (filter p xs)) ih) (λ t. ih)

-- whoever is in what a test leaves passes it
pub filter_passes : (p : ℕ → Bool) (y : ℕ) (xs : List ℕ) → is_in y (filter p xs) ≡ true → p y ≡ true
filter_passes p y [] h = absurd cc
filter_passes p y (x ∷ xs) h = by_test (p x) refl h (filter_passes p y xs) where
  by_test : (b : Bool) → p x ≡ b → is_in y (cond b (x ∷ filter p xs) (filter p xs)) ≡ true → (is_in y (filter p xs) ≡ true → p y ≡ true) → p y ≡ true
  by_test true q g ih = elim (or_cases (x == y) (is_in y (filter p xs)) g) [ inl t ↦ subst (λ z. p z ≡ true) (eqb-true x y t) q | inr t ↦ ih t ]
  by_test false q g ih = ih g

pub with_one_in : (y z : ℕ) (xs : List ℕ) → is_in z (with_one y xs) ≡ true → (is_in z xs ≡ true) ⊎ (z ≡ y)
with_one_in y z xs h = cond_both (is_in y xs) xs (xs ++ y ∷ []) (λ l. is_in z l ≡ true → (is_in z xs ≡ true) ⊎ (z ≡ y)) (λ t q. inl q) (λ t q. at_end xs q) h where
  at_end : (ys : List ℕ) → is_in z (ys ++ y ∷ []) ≡ true → (is_in z ys ≡ true) ⊎ (z ≡ y)
  at_end [] q = elim (or_cases (y == z) false q) [ inl e ↦ inr (sym (eqb-true y z e)) | inr e ↦ absurd cc ]
  at_end (x ∷ ys) q = elim (cases_Bool (x == z)) [
    | inl e ↦ inl (subst (λ b. (b || is_in z ys) ≡ true) (sym e) refl)
    | inr e ↦ elim (at_end ys (subst (λ b. (b || is_in z (ys ++ y ∷ [])) ≡ true) e q)) [ inl k ↦ inl (subst (λ b. (b || is_in z ys) ≡ true) (sym e) k) | inr k ↦ inr k ]
  ]

-- ---- a spent digest ----

-- each node is whole, or has said that it is lost
pub spent_each : (s : Spec) (d : List Told) (t : Told) → is_spent s d ≡ true → In t d → t.lost ≡ false → t.whole ≡ true
unfolding is_spent
spent_each s d t h i l = let p = and_parts (all_of (λ (t : Told). t.whole || t.lost) d) (not (enough s d)) h in elim (or_cases t.whole t.lost (all_in (λ (t : Told). t.whole || t.lost) t d p.0 i)) [
  | inl w ↦ w
  | inr w ↦ absurd (let z : true ≡ false = sym w ∙ l in cc)
]

-- as many said that they are lost as there are copies
pub spent_lost : (s : Spec) (d : List Told) → map (λ (t : Told). t.node) d ≡ nodes_of s → is_spent s d ≡ true → s.r ≤ how_many (λ (t : Told). t.lost) d
unfolding is_spent enough
spent_lost s d n h =
    let p = and_parts (all_of (λ (t : Told). t.whole || t.lost) d) (not (nat_lt (length (nodes_of s)) (s.r + how_many (λ (t : Told). t.whole && not t.lost) d))) h in
    let few = ltb-false (length (nodes_of s)) (s.r + how_many (λ (t : Told). t.whole && not t.lost) d) (not-true _ p.1) in
    let k = ap length n in
    let q = told_length d in
    let c = count_cover (λ (t : Told). t.whole && not t.lost) (λ (t : Told). t.lost) d (λ t i. one t (all_in (λ (t : Told). t.whole || t.lost) t d p.0 i)) in omega arith where
      one : (t : Told) → (t.whole || t.lost) ≡ true → ((t.whole && not t.lost) ≡ true) ⊎ (t.lost ≡ true)
      one t g = elim (cases_Bool t.lost) [
        | inl l ↦ inr l
        | inr l ↦ elim (or_cases t.whole t.lost g) [
          | inl w ↦ inl (and_from t.whole (not t.lost) w (ap not l))
          | inr w ↦ inr w
        ]
      ]

-- where each of them has nothing to tell, so have as many of the epoch's nodes as there are copies
pub spent_gone : (p : ℕ → Bool) (s : Spec) (d : List Told) → map (λ (t : Told). t.node) d ≡ nodes_of s → ((t : Told) → In t d → t.lost ≡ true → p t.node ≡ true) → is_spent s d ≡ true
    → s.r ≤ how_many (λ y. is_in y (filter p (nodes_of s))) (nodes_of s)
spent_gone p s d n g h =
    let a = spent_lost s d n h in
    let b = count_mono (λ (t : Told). t.lost) (λ (t : Told). p t.node) d g in
    let e = counted_nodes p d in
    let k = ap (how_many p) n in
    let m = count_mono p (λ y. is_in y (filter p (nodes_of s))) (nodes_of s) (λ y i t. in_filter p y (nodes_of s) i t) in omega arith

-- ---- a digest that is enough ----

-- of as many nodes as there are copies one is whole in it and not lost
pub enough_shares : (s : Spec) (p : ℕ → Bool) (d : List Told) → map (λ (t : Told). t.node) d ≡ nodes_of s → s.r ≤ how_many p (nodes_of s) → length (nodes_of s) < s.r + how_many (λ (t : Told). t.whole && not t.lost) d
    → (t : Told) × In t d × (t.whole ≡ true) × (t.lost ≡ false) × (p t.node ≡ true)
enough_shares s p d n h lt =
    let c = counted_nodes p d in
    let m = ap (how_many p) n in
    let k = ap length n in
    let q = told_length d in
    let r = count_share (λ (t : Told). p t.node) (λ (t : Told). t.whole && not t.lost) d (omega arith) in
    let w = and_parts r.0.whole (not r.0.lost) r.3 in
    (r.0, r.1, w.0, not-true r.0.lost w.1, r.2)

-- ---- what a plan says of a number ----

-- the best statement's record, and else a plug
pub loss_says : (o : Option Entry) (x : What) → content true o ≡ x → ((p : List ℕ) × (e : Entry) × (x ≡ Rec p) × (o ≡ Some e) × (e.what ≡ Rec p)) ⊎ (x ≡ Plug)
loss_says None x h = inr (sym h)
loss_says (Some e) x h = by_what e.what refl h where
  by_what : (w : What) → e.what ≡ w → record_or Plug w ≡ x → ((p : List ℕ) × (f : Entry) × (x ≡ Rec p) × (Some e ≡ Some f) × (f.what ≡ Rec p)) ⊎ (x ≡ Plug)
  by_what (Rec p) q g = inl (p, e, sym g, refl, q)
  by_what Hole q g = inr (sym g)
  by_what Bridge q g = inr (sym g)
  by_what Plug q g = inr (sym g)
  by_what Withheld q g = inr (sym g)

-- a plan that found what it says has no plug
pub found_no_plug : (o : Option Entry) → content false o ≡ Plug → ⊥
found_no_plug None h = cc
found_no_plug (Some e) h = by_what e.what h where
  by_what : (w : What) → record_or Hole w ≡ Plug → ⊥
  by_what (Rec p) g = cc
  by_what Hole g = cc
  by_what Bridge g = cc
  by_what Plug g = cc
  by_what Withheld g = cc

-- and a loss plan no hole
pub loss_no_hole : (o : Option Entry) → content true o ≡ Hole → ⊥
loss_no_hole o h = elim (loss_says o Hole h) [ inl a ↦ (let z : Hole ≡ Rec a.0 = a.2 in cc) | inr a ↦ cc ]
