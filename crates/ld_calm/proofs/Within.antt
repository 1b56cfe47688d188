-- A set within another one has no more nodes.
use Rattle.std.proofs.Common.{◌≡◌, ◌≤◌, ℕ, ◌+◌, inl, inr, refl, ap, Bool, true, false, ◌==◌, ◌||◌, List, [], ◌∷◌, length, arith}
use Rattle.std.proofs.lemmas.Bool.{cases_Bool, eqb-true, eq-eqb}
use Rattle.ld_table.specs.Words.{is_in}
use Rattle.ld_ids.specs.Set.{members, members_from, IsSubset}

or_false : (t u : Bool) → t ≡ false → (t || u) ≡ true → u ≡ true
or_false true u e h = absurd cc
or_false false u e h = h

from_low : (k z : ℕ) (fs : List Bool) → is_in z (members_from k fs) ≡ true → k ≤ z
unfolding members_from
from_low k z [] h = absurd cc
from_low k z (false ∷ fs) h = let i : k + 1 ≤ z = from_low (k + 1) z fs h in omega arith
from_low k z (true ∷ fs) h = elim (cases_Bool (k == z)) [
  | inl t ↦ (let e = eqb-true k z t in omega arith)
  | inr t ↦ (let i : k + 1 ≤ z = from_low (k + 1) z fs (or_false (k == z) (is_in z (members_from (k + 1) fs)) t h) in omega arith)
]

members_few : (k : ℕ) (xs ys : List Bool) → ((z : ℕ) → is_in z (members_from k xs) ≡ true → is_in z (members_from k ys) ≡ true) → length (members_from k xs) ≤ length (members_from k ys)
unfolding members_from
members_few k [] ys h = omega arith
members_few k (true ∷ xs) [] h = absurd (let e : (k == k) ≡ true = eq-eqb k k refl in let f : false ≡ true = h k (ap (λ (b : Bool). b || is_in k (members_from (k + 1) xs)) e) in cc)
members_few k (false ∷ xs) [] h = members_few (k + 1) xs [] (λ z i. h z i)
members_few k (x ∷ xs) (y ∷ ys) h = by_heads x y h (λ r. members_few (k + 1) xs ys r) where
  tail_in : ((z : ℕ) → is_in z (members_from (k + 1) xs) ≡ true → is_in z (k ∷ members_from (k + 1) ys) ≡ true) → (z : ℕ) → is_in z (members_from (k + 1) xs) ≡ true → is_in z (members_from (k + 1) ys) ≡ true
  tail_in g z i = elim (cases_Bool (k == z)) [
    | inl t ↦ absurd (let e = eqb-true k z t in let l = from_low (k + 1) z xs i in omega arith)
    | inr t ↦ or_false (k == z) (is_in z (members_from (k + 1) ys)) t (g z i)
  ]

  skips : (z : ℕ) (b : Bool) → is_in z (members_from (k + 1) xs) ≡ true → (b || is_in z (members_from (k + 1) xs)) ≡ true
  skips z true i = refl
  skips z false i = i

  by_heads : (b d : Bool) → ((z : ℕ) → is_in z (members_from k (b ∷ xs)) ≡ true → is_in z (members_from k (d ∷ ys)) ≡ true)
      → (((z : ℕ) → is_in z (members_from (k + 1) xs) ≡ true → is_in z (members_from (k + 1) ys) ≡ true) → length (members_from (k + 1) xs) ≤ length (members_from (k + 1) ys))
      → length (members_from k (b ∷ xs)) ≤ length (members_from k (d ∷ ys))
  by_heads true true g ih = let i = ih (tail_in (λ z j. g z (skips z (k == z) j))) in omega arith
  by_heads true false g ih = absurd (let e : (k == k) ≡ true = eq-eqb k k refl in let l = from_low (k + 1) k ys (g k (ap (λ (b : Bool). b || is_in k (members_from (k + 1) xs)) e)) in omega arith)
  by_heads false true g ih = let i = ih (tail_in g) in omega arith
  by_heads false false g ih = ih g

pub subset_few : (xs ys : List Bool) → IsSubset xs ys → length (members xs) ≤ length (members ys)
subset_few xs ys h = members_few 1 xs ys h
