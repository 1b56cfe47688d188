-- Members of lists of marks.
use Rattle.std.proofs.Common.{◌≡◌, ◌<◌, ℕ, zero, suc, ◌+◌, inl, inr, ap, subst, List, [], ◌∷◌, ◌++◌, map, arith}
use Rattle.ld_table.specs.Words.{numbers_from}
use Rattle.ld_machine.specs.World.{In}

pub in_left : {X : Type 0} (x : X) (xs ys : List X) → In x xs → In x (xs ++ ys)
in_left x [] ys i = absurd i
in_left x (z ∷ xs) ys (inl e) = inl e
in_left x (z ∷ xs) ys (inr i) = inr (in_left x xs ys i)

pub in_right : {X : Type 0} (x : X) (xs ys : List X) → In x ys → In x (xs ++ ys)
in_right x [] ys i = i
in_right x (z ∷ xs) ys i = inr (in_right x xs ys i)

pub in_numbers : (first k j : ℕ) → j < k → In (first + j) (numbers_from first k)
in_numbers first zero j l = absurd (omega arith)
in_numbers first (suc k) zero l = inl (omega arith)
in_numbers first (suc k) (suc j) l = inr (let e : first + 1 + j ≡ first + suc j = omega arith in subst (λ x. In x (numbers_from (first + 1) k)) e (in_numbers (first + 1) k j (omega arith)))

pub in_above : (t : ℕ) (ts : List ℕ) → In t ts → In (t + 1) (map (λ x. x + 1) ts)
in_above t [] i = absurd i
in_above t (x ∷ ts) (inl e) = inl (ap (λ y. y + 1) e)
in_above t (x ∷ ts) (inr i) = inr (in_above t ts i)
