-- Nodes of a list as a set: which they are, and not their order, decides a choice.
use Rattle.std.proofs.Common.{◌≡◌, ℕ, ◌+◌, Bool, true, false, ◌||◌, ◌==◌, not, List, [], ◌∷◌, ◌++◌, length, take, slice_get, Some, refl, ap, sym, inl, inr, ◌∙◌, if◌then◌else◌, nat_lt, ◌%◌}
use Rattle.std.proofs.lemmas.Bool.{eq-eqb, ne_eqb, cases_eq}
use Rattle.std.proofs.lemmas.List.{take_more}
use Rattle.std.proofs.lemmas.Option.{slice_get_within, get_or_from_slice_get}
use Rattle.ld_table.specs.Words.{is_in, without}
use Rattle.ld_ids.specs.Set.{members, members_from, no_nodes, with_node}
use Rattle.ld_ids.specs.declared.set.Spec.{Spec}
use Rattle.ld_ids.specs.Choice.{choice_at, ring, nodes_of}

pub without_same : (xs ys zs : List ℕ) → ((n : ℕ) → is_in n xs ≡ is_in n ys) → without xs zs ≡ without ys zs
without_same xs ys [] h = refl
without_same xs ys (z ∷ zs) h = λ j. if not (h z j) then z ∷ without_same xs ys zs h j else without_same xs ys zs h j

pub choice_same : (s : Spec) (xs ys : List ℕ) (p : ℕ) → ((n : ℕ) → is_in n xs ≡ is_in n ys) → choice_at s xs p ≡ choice_at s ys p
unfolding choice_at
choice_same s xs ys p h = ap (λ m. take (s.r + s.extras) (if nat_lt (length m) s.r then ring (p % length (nodes_of s)) (nodes_of s) else m)) (without_same xs ys (ring (p % length (nodes_of s)) (nodes_of s)) h)

swap : (a b : ℕ) → (a == b) ≡ (b == a)
swap a b = elim (cases_eq a b) [
  | inl e ↦ eq-eqb a b e ∙ sym (eq-eqb b a (sym e))
  | inr e ↦ ne_eqb a b e ∙ sym (ne_eqb b a (λ h. e (sym h)))
]

or_swap : (a b c : Bool) → (a || (b || c)) ≡ (b || (a || c))
or_swap true true c = refl
or_swap true false c = refl
or_swap false true c = refl
or_swap false false c = refl

is_in_more : (n x : ℕ) (xs : List ℕ) → is_in n (xs ++ x ∷ []) ≡ ((n == x) || is_in n xs)
is_in_more n x [] = ap (λ b. b || false) (swap x n)
is_in_more n x (y ∷ xs) = ap (λ b. (y == n) || b) (is_in_more n x xs) ∙ or_swap (y == n) (n == x) (is_in n xs)

pub no_members : (n : ℕ) → is_in n (members no_nodes) ≡ false
unfolding members_from
no_members n = refl

take_next : (xs : List ℕ) (i x : ℕ) → slice_get xs i ≡ Some x → take (i + 1) xs ≡ take i xs ++ x ∷ []
take_next xs i x g = take_more xs i x (slice_get_within xs i x g) ∙ ap (λ y. take i xs ++ y ∷ []) (get_or_from_slice_get xs i x x g)

pub members_more : (n i x : ℕ) (flags : List Bool) (xs : List ℕ) → is_in n (members flags) ≡ is_in n (take i xs) → slice_get xs i ≡ Some x → is_in n (members (with_node x flags)) ≡ ((n == x) || is_in n (members flags)) → is_in n (members (with_node x flags)) ≡ is_in n (take (i + 1) xs)
members_more n i x flags xs h g m = m ∙ (ap (λ b. (n == x) || b) h ∙ (sym (is_in_more n x (take i xs)) ∙ ap (is_in n) (sym (take_next xs i x g))))
