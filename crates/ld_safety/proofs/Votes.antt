-- Nodes that stored a number, counted once each.
use Rattle.std.proofs.Common.{◌≡◌, ◌⊎◌, ◌≤◌, ◌||◌, ℕ, suc, inl, inr, refl, sym, subst, Bool, true, false, ◌==◌, if◌then◌else◌, List, [], ◌∷◌, ◌++◌, length, length-append, arith}
use Rattle.std.proofs.lemmas.Bool.{cases_Bool, eqb-true, eq-eqb, or_left, or_right}
use Rattle.ld_table.specs.Words.{is_in, with_one, how_many}
use Rattle.ld_ids.specs.declared.set.Spec.{Spec}
use Rattle.ld_ids.specs.Choice.{nodes_of}
use Rattle.ld_msg.specs.declared.msg.Msg.{Msg}
use Rattle.ld_machine.specs.World.{In}
use Rattle.ld_safety.proofs.Lists.{how_many-yes, how_many-no, count_mono}
use Rattle.ld_safety.proofs.Protocol.{tells_stored, tells_settled}

pub in_of : (y : ℕ) (xs : List ℕ) → is_in y xs ≡ true → In y xs
in_of y [] h = absurd cc
in_of y (x ∷ xs) h = elim (cases_Bool (x == y)) [ inl t ↦ inl (sym (eqb-true x y t)) | inr t ↦ inr (in_of y xs (subst (λ b. (b || is_in y xs) ≡ true) t h)) ]

is_in-end : (z y : ℕ) (xs : List ℕ) → is_in z (xs ++ y ∷ []) ≡ true → (is_in z xs ≡ true) ⊎ (z ≡ y)
is_in-end z y [] h = elim (cases_Bool (y == z)) [ inl t ↦ inr (sym (eqb-true y z t)) | inr t ↦ absurd (let q : (false || false) ≡ true = subst (λ b. (b || false) ≡ true) t h in cc) ]
is_in-end z y (x ∷ xs) h = elim (cases_Bool (x == z)) [
  | inl t ↦ inl (or_left (x == z) (is_in z xs) t)
  | inr t ↦ elim (is_in-end z y xs (subst (λ b. (b || is_in z (xs ++ y ∷ [])) ≡ true) t h)) [ inl a ↦ inl (or_right (x == z) (is_in z xs) a) | inr a ↦ inr a ]
]

is_in-left : (z y : ℕ) (xs : List ℕ) → is_in z xs ≡ true → is_in z (xs ++ y ∷ []) ≡ true
is_in-left z y [] h = absurd cc
is_in-left z y (x ∷ xs) h = elim (cases_Bool (x == z)) [
  | inl t ↦ or_left (x == z) (is_in z (xs ++ y ∷ [])) t
  | inr t ↦ or_right (x == z) (is_in z (xs ++ y ∷ [])) (is_in-left z y xs (subst (λ b. (b || is_in z xs) ≡ true) t h))
]

is_in-last : (y : ℕ) (xs : List ℕ) → is_in y (xs ++ y ∷ []) ≡ true
is_in-last y [] = or_left (y == y) false (eq-eqb y y refl)
is_in-last y (x ∷ xs) = or_right (x == y) (is_in y (xs ++ y ∷ [])) (is_in-last y xs)

-- a weaker test that passes one member more
count_more : {X : Type 0} (p q : X → Bool) (y : X) (xs : List X) → ((x : X) → In x xs → p x ≡ true → q x ≡ true) → In y xs → p y ≡ false → q y ≡ true → suc (how_many p xs) ≤ how_many q xs
count_more p q y [] h i a b = absurd i
count_more p q y (x ∷ xs) h (inl e) a b = let u = how_many-no p x xs (subst (λ z. p z ≡ false) e a) in let v = how_many-yes q x xs (subst (λ z. q z ≡ true) e b) in let w : how_many p xs ≤ how_many q xs = count_mono p q xs (λ z i. h z (inr i)) in omega arith
count_more p q y (x ∷ xs) h (inr i) a b = let ih : suc (how_many p xs) ≤ how_many q xs = count_more p q y xs (λ z j. h z (inr j)) i a b in elim (cases_Bool (p x)) [
  | inl t ↦ omega (arith, how_many-yes p x xs t, how_many-yes q x xs (h x (inl refl) t))
  | inr t ↦ elim (cases_Bool (q x)) [ inl u ↦ omega (arith, how_many-no p x xs t, how_many-yes q x xs u) | inr u ↦ omega (arith, how_many-no p x xs t, how_many-no q x xs u) ]
]

-- these nodes of a set pass a test
pub record VotersBy (s : Spec) (tells : ℕ → Bool) (ys : List ℕ) : Type 0 where
  pub counted : length ys ≤ how_many (λ x. is_in x ys) (nodes_of s)
  pub stored : (y : ℕ) → is_in y ys ≡ true → tells y ≡ true

pub nobody : (s : Spec) (tells : ℕ → Bool) → VotersBy s tells []
nobody s tells = record { counted = omega arith; stored = λ y h. absurd cc }

pub one_voter : (s : Spec) (tells : ℕ → Bool) (y : ℕ) (ys : List ℕ) → In y (nodes_of s) → tells y ≡ true → VotersBy s tells ys → VotersBy s tells (with_one y ys)
one_voter s tells y ys i t v = elim (cases_Bool (is_in y ys)) [
  | inl h ↦ subst (λ k. VotersBy s tells (if k then ys else ys ++ y ∷ [])) (sym h) v
  | inr h ↦ subst (λ k. VotersBy s tells (if k then ys else ys ++ y ∷ [])) (sym h) (record {
    counted = let c = count_more (λ x. is_in x ys) (λ x. is_in x (ys ++ y ∷ [])) y (nodes_of s) (λ x j g. is_in-left x y ys g) i h (is_in-last y ys) in let u = v.counted in let w = length-append ys (y ∷ []) in omega arith;
    stored = λ z g. elim (is_in-end z y ys g) [ inl a ↦ v.stored z a | inr a ↦ subst (λ x. tells x ≡ true) (sym a) t ];
  })
]

pub counted_votes : (s : Spec) (tells : ℕ → Bool) (ys : List ℕ) → VotersBy s tells ys → s.r ≤ length ys → s.r ≤ how_many tells (nodes_of s)
counted_votes s tells ys v h = let c = count_mono (λ x. is_in x ys) tells (nodes_of s) (λ x i g. v.stored x g) in let u = v.counted in omega arith

-- these nodes of a set stored the number for the ballot
abbrev pub Voters : Spec → List Msg → ℕ → ℕ → ℕ → List ℕ → Type 0
Voters s sent l n b ys = VotersBy s (tells_stored sent l n b) ys

-- these stored it or trimmed it away
abbrev pub Settlers : Spec → List Msg → ℕ → ℕ → ℕ → List ℕ → Type 0
Settlers s sent l n b ys = VotersBy s (tells_settled sent l n b) ys
