-- A list from a place on.
use Rattle.std.proofs.Common.{◌≡◌, ℕ, zero, suc, ◌+◌, ◌<◌, List, [], ◌∷◌, length, drop, drop-cons, get_or, Some, None, ap, sym, ◌∙◌, arith, add-one}
use Rattle.std.specs.List.{slice_get}

dropped : {X : Type 0} (xs : List X) (i : ℕ) (x : X) → slice_get xs i ≡ Some x → drop i xs ≡ x ∷ drop (suc i) xs
dropped [] i x e = absurd cc
dropped (y ∷ xs) zero x e = let same : y ≡ x = cc in ap (λ z. z ∷ xs) same
dropped (y ∷ xs) (suc i) x e = dropped xs i x e

-- the element of the place comes first
pub drop_at_place : {X : Type 0} (xs : List X) (i : ℕ) (x : X) → slice_get xs i ≡ Some x → drop i xs ≡ x ∷ drop (i + 1) xs
drop_at_place xs i x e = rw add-one (dropped xs i x e)

pub drop_item : {X : Type 0} (xs : List X) (i : ℕ) (x : X) → i < length xs → x ≡ get_or xs i x → drop i xs ≡ x ∷ drop (i + 1) xs
drop_item xs i x h e = rw add-one (drop-cons xs i x h ∙ ap (λ y. y ∷ drop (suc i) xs) (sym e))

-- a place within the list has an element
pub there_is : {X : Type 0} (xs : List X) (i : ℕ) → i < length xs → slice_get xs i ≡ None → ⊥
there_is [] i h e = omega arith
there_is (y ∷ xs) zero h e = cc
there_is (y ∷ xs) (suc i) h e = there_is xs i (omega arith) e
