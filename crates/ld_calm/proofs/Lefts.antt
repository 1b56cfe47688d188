-- How many marks stand at or above a number, and lengths of lists.
use Rattle.std.proofs.Common.{◌≡◌, ◌≤◌, ℕ, zero, suc, ◌+◌, inl, inr, refl, ap, subst, Bool, true, false, nat_le, List, [], ◌∷◌, length, take, drop, map, filter, arith}
use Rattle.std.proofs.lemmas.Bool.{leb-true, le-leb, cases_Bool}
use Rattle.ld_table.specs.Words.{how_many}
use Rattle.ld_machine.specs.World.{In}
use Rattle.ld_safety.proofs.Lists.{cond_both, count_mono, how_many-yes, how_many-no}

-- how many of the marks stand at or above a number
abbrev pub left : ℕ → List ℕ → ℕ
left a ms = how_many (λ m. nat_le a m) ms

pub left_most : (a : ℕ) (ms : List ℕ) → left a ms ≤ length ms
left_most a [] = omega arith
left_most a (m ∷ ms) = let ih : left a ms ≤ length ms = left_most a ms in cond_both (nat_le a m) (suc (left a ms)) (left a ms) (λ n. n ≤ suc (length ms)) (λ t. omega arith) (λ t. omega arith)

pub left_falls_to : (a b : ℕ) (ms : List ℕ) → a ≤ b → left b ms ≤ left a ms
left_falls_to a b ms h = count_mono (λ m. nat_le b m) (λ m. nat_le a m) ms (λ m i t. le-leb a m (let z = leb-true b m t in omega arith))

-- past a mark there are fewer
pub left_past : (a x : ℕ) (ms : List ℕ) → In x ms → a ≤ x → left (x + 1) ms + 1 ≤ left a ms
left_past a x [] i h = absurd i
left_past a x (m ∷ ms) (inl e) h =
    let low : left (x + 1) ms ≤ left a ms = left_falls_to a (x + 1) ms (omega arith) in
    let here : left a (m ∷ ms) ≡ suc (left a ms) = how_many-yes (λ y. nat_le a y) m ms (subst (λ y. nat_le a y ≡ true) e (le-leb a x h)) in
    let gone : left (x + 1) (m ∷ ms) ≡ left (x + 1) ms = how_many-no (λ y. nat_le (x + 1) y) m ms (subst (λ y. nat_le (x + 1) y ≡ false) e (not_above x)) in
    omega arith where
      not_above : (y : ℕ) → nat_le (y + 1) y ≡ false
      not_above y = elim (cases_Bool (nat_le (y + 1) y)) [ inl t ↦ absurd (let z = leb-true (y + 1) y t in omega arith) | inr t ↦ t ]
left_past a x (m ∷ ms) (inr i) h =
    let ih : left (x + 1) ms + 1 ≤ left a ms = left_past a x ms i h in elim (cases_Bool (nat_le (x + 1) m)) [
      | inl t ↦ (let z = leb-true (x + 1) m t in omega (arith, how_many-yes (λ y. nat_le (x + 1) y) m ms t, how_many-yes (λ y. nat_le a y) m ms (le-leb a m (omega arith))))
      | inr t ↦ elim (cases_Bool (nat_le a m)) [
        | inl u ↦ omega (arith, how_many-no (λ y. nat_le (x + 1) y) m ms t, how_many-yes (λ y. nat_le a y) m ms u)
        | inr u ↦ omega (arith, how_many-no (λ y. nat_le (x + 1) y) m ms t, how_many-no (λ y. nat_le a y) m ms u)
      ]
    ]

-- ---- lengths ----

pub filtered : {X : Type 0} (p : X → Bool) (xs : List X) → length (filter p xs) ≤ length xs
filtered p [] = omega arith
filtered p (x ∷ xs) = let ih : length (filter p xs) ≤ length xs = filtered p xs in cond_both (p x) (x ∷ filter p xs) (filter p xs) (λ ys. length ys ≤ suc (length xs)) (λ t. omega arith) (λ t. omega arith)

pub taken : {X : Type 0} (n : ℕ) (xs : List X) → length (take n xs) ≤ length xs
taken zero xs = omega arith
taken (suc n) [] = omega arith
taken (suc n) (x ∷ xs) = let ih : length (take n xs) ≤ length xs = taken n xs in omega arith

pub cut_in_two : {X : Type 0} (n : ℕ) (xs : List X) → length (drop n xs) + length (take n xs) ≡ length xs
cut_in_two zero xs = omega arith
cut_in_two (suc n) [] = omega arith
cut_in_two (suc n) (x ∷ xs) = let ih : length (drop n xs) + length (take n xs) ≡ length xs = cut_in_two n xs in omega arith

pub mapped : {X Y : Type 0} (f : X → Y) (xs : List X) → length (map f xs) ≡ length xs
mapped f [] = refl
mapped f (x ∷ xs) = ap suc (mapped f xs)
