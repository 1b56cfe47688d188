-- Nodes one after another.
use Rattle.std.proofs.Common.{◌≡◌, ℕ, ◌+◌, true, false, not, ◌==◌, List, [], ◌∷◌, ◌++◌, drop, slice_get, Some, if◌then◌else◌, refl, ap, sym, ◌∙◌, append_assoc, subst, inl, inr}
use Rattle.std.proofs.lemmas.Bool.{or_parts, or_from, eq-eqb, ne_eqb, cases_eq}
use Rattle.ld_copyset.proofs.Rings.{distinct-without}
use Rattle.ld_table.specs.Words.{is_in, without}
use Rattle.ld_table.proofs.Places.{drop_at_place}
use Rattle.ld_copyset.specs.Copyset.{AreDistinct}

without_split : (xs : List ℕ) (y : ℕ) (ys : List ℕ) → without xs (y ∷ ys) ≡ without xs (y ∷ []) ++ without xs ys
without_split xs y ys = elim (is_in y xs) as (λ b. (if not b then y ∷ without xs ys else without xs ys) ≡ (if not b then y ∷ [] else []) ++ without xs ys) [ true ↦ refl | false ↦ refl ]

pub kept_one : (xs ys : List ℕ) (i y : ℕ) (left : List ℕ) → slice_get ys i ≡ Some y → (left ++ without xs (y ∷ [])) ++ without xs (drop (i + 1) ys) ≡ left ++ without xs (drop i ys)
kept_one xs ys i y left e = append_assoc left _ _ ∙ ap (λ zs. left ++ zs) (sym (ap (without xs) (drop_at_place ys i y e) ∙ without_split xs y (drop (i + 1) ys)))

swap : (a b : ℕ) → (a == b) ≡ (b == a)
swap a b = elim (cases_eq a b) [
  | inl e ↦ eq-eqb a b e ∙ sym (eq-eqb b a (sym e))
  | inr e ↦ ne_eqb a b e ∙ sym (ne_eqb b a (λ h. e (sym h)))
]

front_lacks : (left : List ℕ) (y : ℕ) (rest : List ℕ) → AreDistinct (left ++ y ∷ rest) → is_in y left ≡ false
front_lacks [] y rest h = refl
front_lacks (x ∷ left) y rest h = or_from (x == y) (is_in y left) (not_there left x y rest h.0) (front_lacks left y rest h.1) where
  not_there : (left : List ℕ) (x y : ℕ) (rest : List ℕ) → is_in x (left ++ y ∷ rest) ≡ false → (x == y) ≡ false
  not_there [] x y rest h = swap x y ∙ (or_parts (y == x) (is_in x rest) h).0
  not_there (z ∷ left) x y rest h = not_there left x y rest (or_parts (z == x) (is_in x (left ++ y ∷ rest)) h).1

-- a node that hasn't stored it isn't among those before it
pub is_new : (xs ys left : List ℕ) (i y : ℕ) → AreDistinct ys → left ++ without xs (drop i ys) ≡ without xs ys → slice_get ys i ≡ Some y → is_in y xs ≡ false → is_in y left ≡ false
is_new xs ys left i y d h e f =
    let rest : without xs (drop i ys) ≡ y ∷ without xs (drop (i + 1) ys) = ap (without xs) (drop_at_place ys i y e) ∙ ap (λ b. if not b then y ∷ without xs (drop (i + 1) ys) else without xs (drop (i + 1) ys)) f in
    front_lacks left y (without xs (drop (i + 1) ys)) (subst AreDistinct (sym (sym (ap (λ r. left ++ r) rest) ∙ h)) (distinct-without xs ys d))
