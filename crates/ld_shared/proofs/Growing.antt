-- Lists of records that grow.
use Rattle.std.proofs.Common.{◌≡◌, ◌≤◌, ◌<◌, ◌+◌, ◌⊎◌, inl, inr, ℕ, List, [], ◌∷◌, ◌++◌, Option, None, Some, length, take, ap, sym, ◌∙◌, subst, arith, append_assoc, length-append}
use Rattle.std.specs.Prelude.{IfSome}
use Rattle.std.proofs.lemmas.List.{take-append-le, append-nil, map-append, length-take}
use Rattle.std.proofs.Math.Seq.{take-append_seam}
use Rattle.ld_records.specs.Growth.{Grows, IsAt, IsTaken}
use Rattle.ld_shared.specs.Bodies.{bodies_of, body_in}
use Rattle.ld_shared.specs.Says.{IsSettled}
use Rattle.ld_shared.specs.declared.shared.Unsettled.{Unsettled}

pub grows_not : (xs : List (List ℕ)) → Grows xs xs
grows_not xs = record { more = []; is = sym (append-nil xs) }

pub grows_as : {C : Type 0} (list : C → List (List ℕ)) (xs : List (List ℕ)) (mid new : C) → new ≡ mid → Grows xs (list mid) → Grows xs (list new)
grows_as list xs mid new is g = subst (λ c. Grows xs (list c)) (sym is) g

pub grows_on : (xs ys zs : List (List ℕ)) → Grows xs ys → Grows ys zs → Grows xs zs
grows_on xs ys zs g h = record { more = g.more ++ h.more; is = h.is ∙ ap (λ l. l ++ h.more) g.is ∙ append_assoc xs g.more h.more }

pub grows_length : (xs ys : List (List ℕ)) → Grows xs ys → length xs ≤ length ys
grows_length xs ys g = omega (arith, ap length g.is, length-append xs g.more)

pub grows_front : (xs ys : List (List ℕ)) → Grows xs ys → take (length xs) ys ≡ xs
grows_front xs ys g = ap (λ l. take (length xs) l) g.is ∙ take-append_seam xs g.more

pub take_grows : (n : ℕ) (xs ys : List (List ℕ)) → n ≤ length xs → Grows xs ys → take n ys ≡ take n xs
take_grows n xs ys less g = ap (λ l. take n l) g.is ∙ take-append-le n xs g.more less

-- a record that is there has a number below the count
pub at_below : (n : ℕ) (v : List ℕ) (xs : List (List ℕ)) → IsAt n v xs → n < length xs
at_below n v xs h = omega (arith, ap length h, length-append (take n xs) (v ∷ []), length-take n xs, length-take (n + 1) xs)

pub at_grows : (n : ℕ) (v : List ℕ) (xs ys : List (List ℕ)) → Grows xs ys → IsAt n v xs → IsAt n v ys
at_grows n v xs ys g h =
    let less = at_below n v xs h in
    ap (λ l. take (n + 1) l) g.is ∙ take-append-le (n + 1) xs g.more (omega (arith, less)) ∙ h
    ∙ ap (λ l. l ++ v ∷ []) (sym (take-append-le n xs g.more (omega (arith, less))) ∙ ap (λ l. take n l) (sym g.is))

pub settled_grows : (u : Option Unsettled) (xs ys : List (List ℕ)) → Grows xs ys → IsSettled xs u → IsSettled ys u
settled_grows None xs ys g h = h
settled_grows (Some u) xs ys g h = elim h [
  | inl made ↦ inl (at_grows u.number u.value.items xs ys g made)
  | inr taken ↦ inr (record { other = taken.other; there = at_grows u.number taken.other xs ys g taken.there; differs = taken.differs })
]

-- the bodies of the first records, with one more
pub bodies_more : (n : ℕ) (v : List ℕ) (xs : List (List ℕ)) → IsAt n v xs → bodies_of (take (n + 1) xs) ≡ bodies_of (take n xs) ++ body_in v ∷ []
bodies_more n v xs h = ap (λ l. bodies_of l) h ∙ map-append body_in (take n xs) (v ∷ [])

-- what is said of a change that isn't settled holds where there is none
pub none_late : (o : Option Unsettled) (P : Unsettled → Type 0) → o ≡ None → IfSome o P
none_late o P is = subst (λ u. IfSome u P) (sym is) tt

pub none_settled : (o : Option Unsettled) (xs : List (List ℕ)) → o ≡ None → IsSettled xs o
none_settled o xs is = subst (λ u. IsSettled xs u) (sym is) tt

pub some_settled : (o : Option Unsettled) (u : Unsettled) (v : List ℕ) (xs : List (List ℕ)) → o ≡ Some u → v ≡ u.value.items → IsAt u.number v xs ⊎ IsTaken u.number v xs → IsSettled xs o
some_settled o u v xs is same h = subst (λ p. IsSettled xs p) (sym is) (subst (λ w. IsAt u.number w xs ⊎ IsTaken u.number w xs) same h)
