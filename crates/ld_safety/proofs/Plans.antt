-- The greatest statement of a digest, and the shape of its plan.
use Rattle.std.proofs.Common.{◌≡◌, ◌∙◌, ◌⊎◌, ◌≤◌, ◌<◌, ℕ, suc, ◌+◌, ◌-◌, max, min, inl, inr, refl, ap, sym, subst, Bool, true, false, not, ◌&&◌, ◌==◌, nat_lt, nat_le, cond, List, [], ◌∷◌, map, Option, Some, None, arith}
use Rattle.ld_table.specs.Words.{numbers_from}
use Rattle.std.proofs.lemmas.Bool.{cases_Bool, and_parts, ltb-true, ltb-false, leb-true, leb-false, lt-ltb, eqb-true, eq-eqb, cases_lt}
use Rattle.ld_lsn.specs.Number.{epoch_of, esn_of, numbered, last_esn}
use Rattle.ld_msg.specs.declared.msg.What.{What}
use Rattle.ld_msg.specs.declared.msg.What.TheVariants.{Rec, Hole, Bridge, Plug, Withheld}
use Rattle.ld_msg.specs.declared.msg.Entry.{Entry}
use Rattle.ld_msg.specs.Digest.{better, is_bridge, says, statement, Told, best, is_content, record_or, content, digest_trim, digest_lng, trim_place, top_in, top_place, plan_floor, plan_end, plan_item, Item, record_items, no_record, plan}
use Rattle.ld_machine.specs.World.{In}
use Rattle.ld_safety.proofs.Lists.{Some_inj, not_none, not_both, branch, cond_both, max_both, In-append, only, In_left, In_right}
use Rattle.ld_safety.proofs.Members.{In_numbers, numbers_in}

-- ---- ranks: 0 for no entry, else one more than its ballot ----
abbrev pub rank : Option Entry → ℕ
rank None = 0
rank (Some e) = suc e.ballot

pub better_cases : (o p : Option Entry) → (better o p ≡ o) ⊎ (better o p ≡ p)
better_cases None p = inr refl
better_cases (Some e) None = inl refl
better_cases (Some e) (Some f) = elim (cases_Bool (nat_lt e.ballot f.ballot)) [ inl t ↦ inr (rw t refl) | inr t ↦ inl (rw t refl) ]

pub better_left : (o p : Option Entry) → rank o ≤ rank (better o p)
better_left None p = omega arith
better_left (Some e) None = omega arith
better_left (Some e) (Some f) = cond_both (nat_lt e.ballot f.ballot) (Some f) (Some e) (λ x. suc e.ballot ≤ rank x) (λ t. let l = ltb-true _ _ t in omega arith) (λ t. omega arith)

pub better_right : (o p : Option Entry) → rank p ≤ rank (better o p)
better_right None p = omega arith
better_right (Some e) None = omega arith
better_right (Some e) (Some f) = cond_both (nat_lt e.ballot f.ballot) (Some f) (Some e) (λ x. suc f.ballot ≤ rank x) (λ t. omega arith) (λ t. let l = ltb-false _ _ t in omega arith)

-- ---- statements ----
pub bridge_what : (w : What) → is_bridge w ≡ true → w ≡ Bridge
bridge_what (Rec p) h = absurd cc
bridge_what Hole h = absurd cc
bridge_what Plug h = absurd cc
bridge_what Withheld h = absurd cc
bridge_what Bridge h = refl

pub no_bridge : (w : What) → (w ≡ Bridge → ⊥) → is_bridge w ≡ false
no_bridge (Rec p) h = refl
no_bridge Hole h = refl
no_bridge Plug h = refl
no_bridge Withheld h = refl
no_bridge Bridge h = absurd (h refl)

says_of : (s : ℕ) (e f : Entry) → says s e ≡ Some f → (e ≡ f) × ((e.number ≡ s) ⊎ ((e.number < s) × (e.what ≡ Bridge)))
says_of s e f h = elim (branch (e.number == s) (Some e) _ (Some f) h) [
  | inl t ↦ (Some_inj t.1, inl (eqb-true _ _ t.0))
  | inr t ↦ elim (branch (is_bridge e.what && nat_lt e.number s) (Some e) None (Some f) t.1) [
    | inl u ↦ let p = and_parts (is_bridge e.what) (nat_lt e.number s) u.0 in (Some_inj u.1, inr (ltb-true _ _ p.1, bridge_what e.what p.0))
    | inr u ↦ absurd (not_none u.1)
  ]
]

says_own : (s : ℕ) (e : Entry) → e.number ≡ s → says s e ≡ Some e
says_own s e h = ap (λ b. cond b (Some e) (cond (is_bridge e.what && nat_lt e.number s) (Some e) None)) (eq-eqb e.number s h)

-- a statement is an entry of the number, or a bridge below it
pub statement_of : (s : ℕ) (es : List Entry) (f : Entry) → statement s es ≡ Some f → In f es × ((f.number ≡ s) ⊎ ((f.number < s) × (f.what ≡ Bridge)))
unfolding statement
statement_of s [] f h = absurd (not_none h)
statement_of s (e ∷ es) f h = elim (better_cases (statement s es) (says s e)) [
  | inl a ↦ let r = statement_of s es f (sym a ∙ h) in (inr r.0, r.1)
  | inr a ↦ let r = says_of s e f (sym a ∙ h) in (inl (sym r.0), subst (λ (x : Entry). (x.number ≡ s) ⊎ ((x.number < s) × (x.what ≡ Bridge))) r.0 r.1)
]

pub statement_least : (s : ℕ) (es : List Entry) (f : Entry) → In f es → f.number ≡ s → suc f.ballot ≤ rank (statement s es)
unfolding statement
statement_least s [] f i h = absurd i
statement_least s (e ∷ es) f (inl q) h = let r = better_right (statement s es) (says s e) in let z : rank (says s e) ≡ suc f.ballot = ap rank (says_own s e (ap (λ (x : Entry). x.number) (sym q) ∙ h)) ∙ ap (λ (x : Entry). suc x.ballot) (sym q) in omega arith
statement_least s (e ∷ es) f (inr i) h = let r = better_left (statement s es) (says s e) in let z = statement_least s es f i h in omega arith

-- ---- the best of a digest ----
pub record Best (s : ℕ) (d : List Told) (f : Entry) : Type 0 where
  pub told : Told
  pub in_digest : In told d
  pub in_entries : In f told.entries
  pub whose : (f.number ≡ s) ⊎ ((f.number < s) × (f.what ≡ Bridge))

pub best_of : (s : ℕ) (d : List Told) (f : Entry) → best s d ≡ Some f → Best s d f
unfolding best
best_of s [] f h = absurd (not_none h)
best_of s (t ∷ d) f h = elim (better_cases (statement s t.entries) (best s d)) [
  | inl a ↦ let r = statement_of s t.entries f (sym a ∙ h) in record { told = t; in_digest = inl refl; in_entries = r.0; whose = r.1 }
  | inr a ↦ let r = best_of s d f (sym a ∙ h) in record { told = r.told; in_digest = inr r.in_digest; in_entries = r.in_entries; whose = r.whose }
]

pub best_least : (s : ℕ) (d : List Told) (t : Told) (f : Entry) → In t d → In f t.entries → f.number ≡ s → suc f.ballot ≤ rank (best s d)
unfolding best
best_least s [] t f i j h = absurd i
best_least s (u ∷ d) t f (inl e) j h = let z = statement_least s u.entries f (subst (λ (x : Told). In f x.entries) e j) h in let r = better_left (statement s u.entries) (best s d) in omega arith
best_least s (u ∷ d) t f (inr i) j h = let z = best_least s d t f i j h in let r = better_right (statement s u.entries) (best s d) in omega arith

pub ranked : (o : Option Entry) (b : ℕ) → suc b ≤ rank o → (x : Entry) × (o ≡ Some x) × (b ≤ x.ballot)
ranked None b h = absurd (omega arith)
ranked (Some x) b h = (x, refl, omega arith)

-- ---- trims ----
pub trim_least : (d : List Told) (t : Told) → In t d → t.trim ≤ digest_trim d
unfolding digest_trim
trim_least [] t i = absurd i
trim_least (u ∷ d) t (inl e) = let z : t.trim ≡ u.trim = ap (λ (x : Told). x.trim) e in omega arith
trim_least (u ∷ d) t (inr i) = let z = trim_least d t i in omega arith

pub trim_has : (P : ℕ → Type 0) (d : List Told) → P 0 → ((t : Told) → In t d → P t.trim) → P (digest_trim d)
unfolding digest_trim
trim_has P [] z h = z
trim_has P (t ∷ d) z h = max_both P t.trim _ (h t (inl refl)) (trim_has P d z (λ u i. h u (inr i)))

-- ---- last known good places ----
pub lng_least : (d : List Told) (t : Told) → In t d → t.lng ≤ digest_lng d
unfolding digest_lng
lng_least [] t i = absurd i
lng_least (u ∷ d) t (inl e) = let z : t.lng ≡ u.lng = ap (λ (x : Told). x.lng) e in omega arith
lng_least (u ∷ d) t (inr i) = let z = lng_least d t i in omega arith

-- what holds of 0 and of each of a digest's holds of the greatest
pub lng_has : (P : ℕ → Type 0) (d : List Told) → P 0 → ((t : Told) → In t d → P t.lng) → P (digest_lng d)
unfolding digest_lng
lng_has P [] z h = z
lng_has P (t ∷ d) z h = max_both P t.lng _ (h t (inl refl)) (lng_has P d z (λ u i. h u (inr i)))

-- it grows with each
pub lng_up : (f : Told → Told) (d : List Told) → ((t : Told) → t.lng ≤ (f t).lng) → digest_lng d ≤ digest_lng (map f d)
unfolding digest_lng
lng_up f [] h = omega arith
lng_up f (t ∷ d) h = let z = lng_up f d h in let y = h t in omega arith

pub lng_same : (f : Told → Told) (d : List Told) → ((t : Told) → (f t).lng ≡ t.lng) → digest_lng (map f d) ≡ digest_lng d
unfolding digest_lng
lng_same f [] h = refl
lng_same f (t ∷ d) h = let z = lng_same f d h in let y = h t in omega arith

-- ---- tops ----
top_in_least : (d : List Told) (es : List Entry) (f : Entry) → In f es → is_bridge f.what ≡ false → is_content (best f.number d) ≡ true → esn_of f.number ≤ top_in d es
top_in_least d [] f i b k = absurd i
top_in_least d (e ∷ es) f (inl q) b k =
    let z : (not (is_bridge e.what) && is_content (best e.number d)) ≡ true = subst (λ (x : Entry). (not (is_bridge x.what) && is_content (best x.number d)) ≡ true) q (both_true (is_bridge f.what) (is_content (best f.number d)) b k) in
    let y : esn_of f.number ≡ esn_of e.number = ap (λ (x : Entry). esn_of x.number) q in
    cond_both (not (is_bridge e.what) && is_content (best e.number d)) (max (esn_of e.number) (top_in d es)) (top_in d es) (λ x. esn_of f.number ≤ x) (λ t. omega arith) (λ t. absurd (not_both _ z t)) where
      both_true : (x y : Bool) → x ≡ false → y ≡ true → (not x && y) ≡ true
      both_true true y h g = absurd cc
      both_true false y h g = g
top_in_least d (e ∷ es) f (inr i) b k = let z = top_in_least d es f i b k in
    cond_both (not (is_bridge e.what) && is_content (best e.number d)) (max (esn_of e.number) (top_in d es)) (top_in d es) (λ x. esn_of f.number ≤ x) (λ t. omega arith) (λ t. z)

top_least_in : (d ts : List Told) (t : Told) (f : Entry) → In t ts → In f t.entries → is_bridge f.what ≡ false → is_content (best f.number d) ≡ true → esn_of f.number ≤ top_place d ts
unfolding top_place
top_least_in d [] t f i j b k = absurd i
top_least_in d (u ∷ ts) t f (inl e) j b k = let z = top_in_least d u.entries f (subst (λ (x : Told). In f x.entries) e j) b k in omega arith
top_least_in d (u ∷ ts) t f (inr i) j b k = let z = top_least_in d ts t f i j b k in omega arith

pub top_least : (d : List Told) (t : Told) (f : Entry) → In t d → In f t.entries → is_bridge f.what ≡ false → is_content (best f.number d) ≡ true → esn_of f.number ≤ top_place d d
top_least d t f i j b k = top_least_in d d t f i j b k

-- no top is above what bounds the contents
top_in_most : (n : ℕ) (d : List Told) (es : List Entry) → ((f : Entry) → In f es → is_bridge f.what ≡ false → esn_of f.number ≤ n) → top_in d es ≤ n
top_in_most n d [] h = omega arith
top_in_most n d (e ∷ es) h = let z = top_in_most n d es (λ f i. h f (inr i)) in cond_both (not (is_bridge e.what) && is_content (best e.number d)) (max (esn_of e.number) (top_in d es)) (top_in d es) (λ x. x ≤ n)
    (λ t. let p = and_parts (not (is_bridge e.what)) (is_content (best e.number d)) t in let a = h e (inl refl) (flip (is_bridge e.what) p.0) in omega arith) (λ t. z) where
      flip : (b : Bool) → not b ≡ true → b ≡ false
      flip true h = absurd cc
      flip false h = refl

top_most_in : (n : ℕ) (d ts : List Told) → ((t : Told) (f : Entry) → In t ts → In f t.entries → is_bridge f.what ≡ false → esn_of f.number ≤ n) → top_place d ts ≤ n
unfolding top_place
top_most_in n d [] h = omega arith
top_most_in n d (t ∷ ts) h = let a = top_in_most n d t.entries (λ f i b. h t f (inl refl) i b) in let b = top_most_in n d ts (λ u f i j k. h u f (inr i) j k) in omega arith

pub top_most : (n : ℕ) (d : List Told) → ((t : Told) (f : Entry) → In t d → In f t.entries → is_bridge f.what ≡ false → esn_of f.number ≤ n) → top_place d d ≤ n
top_most n d h = top_most_in n d d h

pub trim_place_most : (e t : ℕ) → trim_place e t ≤ last_esn - 1
trim_place_most e t = cond_both (nat_lt (epoch_of t) e) 0 _ (λ x. x ≤ last_esn - 1) (λ a. omega arith) (λ a. cond_both (nat_lt e (epoch_of t)) (last_esn - 1) (min (esn_of t) (last_esn - 1)) (λ x. x ≤ last_esn - 1) (λ b. omega arith) (λ b. omega arith))

-- ---- the plan's shape ----
pub record Shape (e : ℕ) (b : Bool) (d : List Told) (n : ℕ) (w : What) : Type 0 where
  pub above : plan_floor e d < n
  pub kind : ((n < plan_end e d) × (w ≡ content b (best (numbered e n) d))) ⊎ ((n ≡ plan_end e d) × (w ≡ Bridge))

pub plan_shape : (e : ℕ) (b : Bool) (d : List Told) (n : ℕ) (w : What) → plan_item e b d n ≡ Some w → Shape e b d n w
unfolding plan_item
plan_shape e b d n w h = elim (branch (nat_le n (plan_floor e d)) None _ (Some w) h) [
  | inl t ↦ absurd (not_none t.1)
  | inr t ↦ let a : plan_floor e d < n = leb-false _ _ t.0 in elim (branch (nat_lt n (plan_end e d)) (Some (content b (best (numbered e n) d))) _ (Some w) t.1) [
    | inl u ↦ record { above = a; kind = inl (ltb-true _ _ u.0, sym (Some_inj u.1)) }
    | inr u ↦ elim (branch (n == plan_end e d) (Some Bridge) None (Some w) u.1) [
      | inl v ↦ record { above = a; kind = inr (eqb-true _ _ v.0, sym (Some_inj v.1)) }
      | inr v ↦ absurd (not_none v.1)
    ]
  ]
]

leb_no : (x y : ℕ) → y < x → nat_le x y ≡ false
leb_no x y h = elim (cases_Bool (nat_le x y)) [ inl t ↦ absurd (let l = leb-true x y t in omega arith) | inr t ↦ t ]

ltb_no : (x y : ℕ) → y ≤ x → nat_lt x y ≡ false
ltb_no x y h = elim (cases_Bool (nat_lt x y)) [ inl t ↦ absurd (let l = ltb-true x y t in omega arith) | inr t ↦ t ]

pub plan_between : (e : ℕ) (b : Bool) (d : List Told) (n : ℕ) → plan_floor e d < n → n < plan_end e d → plan_item e b d n ≡ Some (content b (best (numbered e n) d))
unfolding plan_item
plan_between e b d n a k = ap (λ x. cond x None (cond (nat_lt n (plan_end e d)) (Some (content b (best (numbered e n) d))) (cond (n == plan_end e d) (Some Bridge) None))) (leb_no n (plan_floor e d) a)
    ∙ ap (λ x. cond x (Some (content b (best (numbered e n) d))) (cond (n == plan_end e d) (Some Bridge) None)) (lt-ltb n (plan_end e d) k)

pub plan_at_end : (e : ℕ) (b : Bool) (d : List Told) (n : ℕ) → plan_floor e d < n → n ≡ plan_end e d → plan_item e b d n ≡ Some Bridge
unfolding plan_item
plan_at_end e b d n a k = ap (λ x. cond x None (cond (nat_lt n (plan_end e d)) (Some (content b (best (numbered e n) d))) (cond (n == plan_end e d) (Some Bridge) None))) (leb_no n (plan_floor e d) a)
    ∙ (ap (λ x. cond x (Some (content b (best (numbered e n) d))) (cond (n == plan_end e d) (Some Bridge) None)) (ltb_no n (plan_end e d) (omega arith)) ∙ ap (λ x. cond x (Some Bridge) None) (eq-eqb n (plan_end e d) k))

pub floor_trim : (e : ℕ) (d : List Told) → trim_place e (digest_trim d) ≤ plan_floor e d
unfolding plan_floor
floor_trim e d = omega arith

pub floor_lng : (e : ℕ) (d : List Told) → digest_lng d ≤ plan_floor e d
unfolding plan_floor
floor_lng e d = omega arith

-- what is at or below the floor is trimmed or known good
pub floor_cases : (e : ℕ) (d : List Told) (n : ℕ) → n ≤ plan_floor e d → (n ≤ trim_place e (digest_trim d)) ⊎ (n ≤ digest_lng d)
unfolding plan_floor
floor_cases e d n h = elim (cases_lt (trim_place e (digest_trim d)) n) [ inl a ↦ inr (omega arith) | inr a ↦ inl (omega arith) ]

pub floor_below : (e : ℕ) (d : List Told) (n : ℕ) → trim_place e (digest_trim d) < n → digest_lng d < n → plan_floor e d < n
unfolding plan_floor
floor_below e d n a b = omega arith

pub end_above_floor : (e : ℕ) (d : List Told) → plan_floor e d < plan_end e d
unfolding plan_end
end_above_floor e d = omega arith

pub end_above_trim : (e : ℕ) (d : List Told) → trim_place e (digest_trim d) < plan_end e d
end_above_trim e d = let a = floor_trim e d in let b = end_above_floor e d in omega arith

pub end_above_top : (e : ℕ) (d : List Told) → top_place d d < plan_end e d
unfolding plan_end
end_above_top e d = omega arith

pub end_most : (e : ℕ) (d : List Told) (n : ℕ) → top_place d d ≤ n → trim_place e (digest_trim d) ≤ n → digest_lng d ≤ n → plan_end e d ≤ n + 1
unfolding plan_end plan_floor
end_most e d n a b k = omega arith

pub plan_bridge : (e : ℕ) (b : Bool) (d : List Told) → plan_item e b d (plan_end e d) ≡ Some Bridge
plan_bridge e b d = plan_at_end e b d (plan_end e d) (end_above_floor e d) refl

-- a content isn't a bridge
pub content_no_bridge : (b : Bool) (o : Option Entry) → content b o ≡ Bridge → ⊥
content_no_bridge true None h = cc
content_no_bridge false None h = cc
content_no_bridge b (Some e) h = by_what b e.what h where
  by_what : (b : Bool) (w : What) → record_or (no_record b) w ≡ Bridge → ⊥
  by_what b (Rec p) g = cc
  by_what true Hole g = cc
  by_what true Bridge g = cc
  by_what true Plug g = cc
  by_what true Withheld g = cc
  by_what false Hole g = cc
  by_what false Bridge g = cc
  by_what false Plug g = cc
  by_what false Withheld g = cc

-- no plan withholds a record
pub content_no_withheld : (b : Bool) (o : Option Entry) → content b o ≡ Withheld → ⊥
content_no_withheld true None h = cc
content_no_withheld false None h = cc
content_no_withheld b (Some e) h = by_what b e.what h where
  by_what : (b : Bool) (w : What) → record_or (no_record b) w ≡ Withheld → ⊥
  by_what b (Rec p) g = cc
  by_what true Hole g = cc
  by_what true Bridge g = cc
  by_what true Plug g = cc
  by_what true Withheld g = cc
  by_what false Hole g = cc
  by_what false Bridge g = cc
  by_what false Plug g = cc
  by_what false Withheld g = cc

-- the items of a plan are those of its offsets
record_items_in : (e : ℕ) (b : Bool) (d : List Told) (ns : List ℕ) (i : Item) → In i (record_items e b d ns) → (n : ℕ) × In n ns × (i.number ≡ numbered e n) × (i.what ≡ content b (best (numbered e n) d))
record_items_in e b d [] i h = absurd h
record_items_in e b d (n ∷ ns) i (inl q) = (n, inl refl, ap (λ (x : Item). x.number) q, ap (λ (x : Item). x.what) q)
record_items_in e b d (n ∷ ns) i (inr h) = let r = record_items_in e b d ns i h in (r.0, inr r.1, r.2, r.3)

pub record Placed (e : ℕ) (b : Bool) (d : List Told) (i : Item) : Type 0 where
  pub place : ℕ
  pub number : i.number ≡ numbered e place
  pub item : plan_item e b d place ≡ Some i.what
  pub above : 0 < place
  pub below : place ≤ plan_end e d

pub plan_items : (e : ℕ) (b : Bool) (d : List Told) (i : Item) → In i (plan e b d).items → Placed e b d i
unfolding plan
plan_items e b d i h = elim (In-append i _ (record { number = numbered e (plan_end e d); what = Bridge } ∷ []) h) [
  | inl a ↦ let r = record_items_in e b d _ i a in let n = In_numbers r.0 _ _ r.1 in let x = n.0 in let y = n.1 in
      record { place = r.0; number = r.2; item = plan_between e b d r.0 (omega arith) (omega arith) ∙ ap Some (sym r.3); above = omega arith; below = omega arith }
  | inr a ↦ let q = only i _ a in record { place = plan_end e d; number = ap (λ (x : Item). x.number) q; item = plan_bridge e b d ∙ ap Some (sym (ap (λ (x : Item). x.what) q)); above = let z = end_above_floor e d in omega arith; below = omega arith }
]

-- each offset above the floor up to the end has its item, the end the bridge
record_items_have : (e : ℕ) (b : Bool) (d : List Told) (ns : List ℕ) (n : ℕ) → In n ns → In (record { number = numbered e n; what = content b (best (numbered e n) d) }) (record_items e b d ns)
record_items_have e b d [] n i = absurd i
record_items_have e b d (m ∷ ns) n (inl q) = inl (ap (λ k. record { number = numbered e k; what = content b (best (numbered e k) d) }) q)
record_items_have e b d (m ∷ ns) n (inr i) = inr (record_items_have e b d ns n i)

pub plan_has : (e : ℕ) (b : Bool) (d : List Told) (n : ℕ) → plan_floor e d < n → n ≤ plan_end e d → (i : Item) × In i (plan e b d).items × (i.number ≡ numbered e n)
unfolding plan
plan_has e b d n a k = elim (cases_lt n (plan_end e d)) [
  | inl lt ↦ (record { number = numbered e n; what = content b (best (numbered e n) d) }, In_left _ (record_items e b d (numbers_from (plan_floor e d + 1) (plan_end e d - 1 - plan_floor e d))) _ (record_items_have e b d _ n (numbers_in n (plan_floor e d + 1) (plan_end e d - 1 - plan_floor e d) (omega arith) (omega arith))), refl)
  | inr ge ↦ (record { number = numbered e (plan_end e d); what = Bridge }, In_right _ (record_items e b d (numbers_from (plan_floor e d + 1) (plan_end e d - 1 - plan_floor e d))) _ (inl refl), ap (numbered e) (let z : plan_end e d ≡ n = omega arith in z))
]
