-- What is in a table after a change, and in a list that is made from others.
use Rattle.std.proofs.Common.{◌≡◌, ◌∙◌, ◌⊎◌, ℕ, ◌≤◌, ◌<◌, ◌+◌, ◌==◌, inl, inr, refl, sym, subst, Bool, true, false, cond, nat_cmp, Ordering, Less, Equal, Greater, List, [], ◌∷◌, filter, length, take, zero, suc, Some, arith}
use Rattle.std.specs.Ordering.{match_ordering}
use Rattle.std.specs.BTreeMap.{is_at}
use Rattle.std.specs.FinMap.{nat_cmp-IsAntisymmetric}
use Rattle.std.specs.List.{AllByRecursion, IsDistinct}
use Rattle.std.proofs.lemmas.Bool.{cases_eq, cases_order, eq-eqb, ne_eqb, or_left, or_right}
use Rattle.ld_table.specs.Table.{find, put, take_out, keep, keep_keys}
use Rattle.ld_table.specs.Words.{values, numbers_from, is_in, how_many}
use Rattle.ld_table.proofs.Laws.{same_key}
use Rattle.ld_ids.specs.Set.{members, members_from}
use Rattle.ld_machine.specs.World.{In}
use Rattle.ld_safety.proofs.Lists.{Some_inj, not_none, not_both}

pair_path : {X Y : Type 0} (s : X) (x : Y) (e : X × Y) → e.0 ≡ s → e.1 ≡ x → ◌≡◌ {A = X × Y} e (s, x)
pair_path s x e a b = λ i. (a i, b i)

pub In_filter : {X : Type 0} (p : X → Bool) (x : X) (xs : List X) → In x (filter p xs) → In x xs × (p x ≡ true)
In_filter p x [] h = absurd h
In_filter p x (y ∷ xs) h = by_test (p y) refl (In_filter p x xs) h where
  by_test : (b : Bool) → p y ≡ b → (In x (filter p xs) → In x xs × (p x ≡ true)) → In x (cond b (y ∷ filter p xs) (filter p xs)) → In x (y ∷ xs) × (p x ≡ true)
  by_test true q ih (inl e) = (inl e, subst (λ z. p z ≡ true) (sym e) q)
  by_test true q ih (inr i) = let r = ih i in (inr r.0, r.1)
  by_test false q ih i = let r = ih i in (inr r.0, r.1)

pub filter_in : {X : Type 0} (p : X → Bool) (x : X) (xs : List X) → In x xs → p x ≡ true → In x (filter p xs)
filter_in p x [] i h = absurd i
filter_in p x (y ∷ xs) i h = by_test (p y) refl i (λ j. filter_in p x xs j h) where
  by_test : (b : Bool) → p y ≡ b → In x (y ∷ xs) → (In x xs → In x (filter p xs)) → In x (cond b (y ∷ filter p xs) (filter p xs))
  by_test true q (inl e) ih = inl e
  by_test true q (inr j) ih = inr (ih j)
  by_test false q (inl e) ih = absurd (not_both (p y) (subst (λ v. p v ≡ true) e h) q)
  by_test false q (inr j) ih = ih j

pub in_set : (y : ℕ) (xs : List ℕ) → In y xs → is_in y xs ≡ true
in_set y [] i = absurd i
in_set y (x ∷ xs) (inl e) = or_left (x == y) (is_in y xs) (eq-eqb x y (sym e))
in_set y (x ∷ xs) (inr i) = or_right (x == y) (is_in y xs) (in_set y xs i)

pub filter_count : {X : Type 0} (p : X → Bool) (xs : List X) → how_many p xs ≤ length (filter p xs)
filter_count p [] = omega arith
filter_count p (y ∷ xs) = by_test (p y) (filter_count p xs) where
  by_test : (b : Bool) → how_many p xs ≤ length (filter p xs) → cond b (suc (how_many p xs)) (how_many p xs) ≤ length (cond b (y ∷ filter p xs) (filter p xs))
  by_test true h = omega arith
  by_test false h = h

-- ---- lists without a number twice ----
filter_all : (p : ℕ → Bool) (P : ℕ → Type 0) (xs : List ℕ) → AllByRecursion P xs → AllByRecursion P (filter p xs)
filter_all p P [] h = tt
filter_all p P (y ∷ xs) h = by_test (p y) (filter_all p P xs h.1) where
  by_test : (b : Bool) → AllByRecursion P (filter p xs) → AllByRecursion P (cond b (y ∷ filter p xs) (filter p xs))
  by_test true g = (h.0, g)
  by_test false g = g

pub filter_apart : (p : ℕ → Bool) (xs : List ℕ) → IsDistinct ◌==◌ xs → IsDistinct ◌==◌ (filter p xs)
unfolding IsDistinct
filter_apart p [] h = tt
filter_apart p (y ∷ xs) h = by_test (p y) (filter_apart p xs h.1) where
  by_test : (b : Bool) → IsDistinct ◌==◌ (filter p xs) → IsDistinct ◌==◌ (cond b (y ∷ filter p xs) (filter p xs))
  by_test true g = (filter_all p (λ x. (y == x) ≡ false) xs h.0, g)
  by_test false g = g

members_above : (j k : ℕ) (flags : List Bool) → j < k → AllByRecursion (λ x. (j == x) ≡ false) (members_from k flags)
unfolding members_from
members_above j k [] lt = tt
members_above j k (true ∷ flags) lt = (ne_eqb j k (λ z. omega arith), members_above j (k + 1) flags (omega arith))
members_above j k (false ∷ flags) lt = members_above j (k + 1) flags (omega arith)

apart_from : (k : ℕ) (flags : List Bool) → IsDistinct ◌==◌ (members_from k flags)
unfolding members_from IsDistinct
apart_from k [] = tt
apart_from k (true ∷ flags) = (members_above k (k + 1) flags (omega arith), apart_from (k + 1) flags)
apart_from k (false ∷ flags) = apart_from (k + 1) flags

-- the nodes of a set
pub members_apart : (flags : List Bool) → IsDistinct ◌==◌ (members flags)
members_apart flags = apart_from 1 flags

pub In_take : {X : Type 0} (n : ℕ) (x : X) (xs : List X) → In x (take n xs) → In x xs
In_take zero x xs h = absurd h
In_take (suc n) x [] h = absurd h
In_take (suc n) x (y ∷ xs) (inl e) = inl e
In_take (suc n) x (y ∷ xs) (inr h) = inr (In_take n x xs h)

module _ {X : Type 0} where
  pub In_values : (x : X) (m : List (ℕ × X)) → In x (values m) → (n : ℕ) × In (n, x) m
  In_values x [] h = absurd h
  In_values x (e ∷ m) (inl q) = (e.0, inl (sym (pair_path e.0 x e refl (sym q))))
  In_values x (e ∷ m) (inr h) = let r = In_values x m h in (r.0, inr r.1)

  find_in_by : (k : ℕ) (e : ℕ × X) (m : List (ℕ × X)) (x : X) (b : Bool) → is_at (nat_cmp k) e.0 ≡ b → (find k m ≡ Some x → In (k, x) m) → cond b (Some e.1) (find k m) ≡ Some x → In (k, x) (e ∷ m)
  find_in_by k e m x true q ih h = inl (sym (pair_path k x e (sym (same_key k e.0 q)) (Some_inj h)))
  find_in_by k e m x false q ih h = inr (ih h)

  -- what is found is there
  pub find_in : (k : ℕ) (m : List (ℕ × X)) (x : X) → find k m ≡ Some x → In (k, x) m
  unfolding find
  find_in k [] x h = absurd (not_none h)
  find_in k (e ∷ m) x h = find_in_by k e m x (is_at (nat_cmp k) e.0) refl (find_in k m x) h

  put_in_step : (o : Ordering) (k : ℕ) (v : X) (e : ℕ × X) (m : List (ℕ × X)) (p : ℕ × X) → nat_cmp k e.0 ≡ o → (In p (put k v m) → (p ≡ (k, v)) ⊎ In p m)
      → In p (match_ordering o ((k, v) ∷ e ∷ m) ((e.0, v) ∷ m) (e ∷ put k v m)) → (p ≡ (k, v)) ⊎ In p (e ∷ m)
  put_in_step Less k v e m p q ih (inl i) = inl i
  put_in_step Less k v e m p q ih (inr i) = inr i
  put_in_step Equal k v e m p q ih (inl i) = inl (i ∙ pair_path k v (e.0, v) (sym (nat_cmp-IsAntisymmetric k e.0 q)) refl)
  put_in_step Equal k v e m p q ih (inr i) = inr (inr i)
  put_in_step Greater k v e m p q ih (inl i) = inr (inl i)
  put_in_step Greater k v e m p q ih (inr i) = elim (ih i) [ inl a ↦ inl a | inr a ↦ inr (inr a) ]

  -- what a put leaves
  pub In_put : (k : ℕ) (v : X) (m : List (ℕ × X)) (p : ℕ × X) → In p (put k v m) → (p ≡ (k, v)) ⊎ In p m
  unfolding put
  In_put k v [] p (inl e) = inl e
  In_put k v [] p (inr h) = absurd h
  In_put k v (e ∷ m) p h = put_in_step (nat_cmp k e.0) k v e m p refl (In_put k v m p) h

  pub In_keep : (q : ℕ → X → Bool) (m : List (ℕ × X)) (p : ℕ × X) → In p (keep q m) → In p m
  unfolding keep
  In_keep q m p h = (In_filter _ p m h).0

  pub In_take_out : (k : ℕ) (m : List (ℕ × X)) (p : ℕ × X) → In p (take_out k m) → In p m
  unfolding take_out
  In_take_out k m p h = (In_filter _ p m h).0

  pub In_keep_keys : (q : ℕ → Bool) (m : List (ℕ × X)) (p : ℕ × X) → In p (keep_keys q m) → In p m × (q p.0 ≡ true)
  unfolding keep_keys
  In_keep_keys q m p h = In_filter _ p m h

pub In_numbers : (x first k : ℕ) → In x (numbers_from first k) → (first ≤ x) × (x < first + k)
In_numbers x first zero h = absurd h
In_numbers x first (suc k) (inl e) = (omega arith, omega arith)
In_numbers x first (suc k) (inr h) = let r = In_numbers x (first + 1) k h in let a = r.0 in let b = r.1 in (omega arith, omega arith)

pub numbers_in : (x first k : ℕ) → first ≤ x → x < first + k → In x (numbers_from first k)
numbers_in x first zero a b = absurd (omega arith)
numbers_in x first (suc k) a b = elim (cases_eq x first) [ inl e ↦ inl e | inr n ↦ inr (numbers_in x (first + 1) k (elim (cases_order x first) [ inl e ↦ absurd (n e) | inr (inl l) ↦ absurd (omega arith) | inr (inr l) ↦ omega arith ]) (omega arith)) ]
