-- The lowest missing number is the first of the missing ones.
use Rattle.std.proofs.Common.{◌≡◌, ◌≤◌, ◌<◌, ◌+◌, ◌-◌, ◌⊎◌, inl, inr, ℕ, zero, suc, max, Bool, true, false, nat_lt, nat_le, nat_cmp, Less, is_none, List, [], ◌∷◌, ◌++◌, Option, Some, None, refl, ap, sym, ◌∙◌, cond, if◌then◌else◌, arith}
use Rattle.std.specs.List.{filter, flat_map, AllByRecursion}
use Rattle.std.specs.List.Sorted.{IsStrictlySortedBy}
use Rattle.std.specs.Map as map
use Rattle.std.specs.BTreeMap.{is_at}
use Rattle.std.proofs.lemmas.Bool.Decides.{nat_tests}
use Rattle.ld_table.specs.Table.{find, Ordered}
use Rattle.ld_table.specs.Words.{first, numbers_from}
use Rattle.ld_table.proofs.Laws.{find-empty, same_key}
use Rattle.ld_table.proofs.Order.{found}
use Rattle.ld_lsn.specs.Number.{numbered}
use Rattle.ld_msg.specs.declared.msg.Entry.{Entry}
use Rattle.ld_msg.specs.declared.msg.Summary.{Summary}
use Rattle.ld_op.specs.Plain.{Log}
use Rattle.ld_op.specs.Ticks.{missing, missing_of, numbers_of, first_above}
use Rattle.ld_op.specs.Whole.{Lacks, HasAll, IsLowest}
use Rattle.ld_op.proofs.Wholes.{order}

-- ---- numbers that follow each other ----

filter_off : (p : ℕ → Bool) (x : ℕ) (xs : List ℕ) → p x ≡ false → filter p (x ∷ xs) ≡ filter p xs
filter_off p x xs h = ap (λ (b : Bool). if b then x ∷ filter p xs else filter p xs) h

filter_on : (p : ℕ → Bool) (x : ℕ) (xs : List ℕ) → p x ≡ true → filter p (x ∷ xs) ≡ x ∷ filter p xs
filter_on p x xs h = ap (λ (b : Bool). if b then x ∷ filter p xs else filter p xs) h

none_of : (p : ℕ → Bool) (a k : ℕ) → ((n : ℕ) → a ≤ n → n < a + k → p n ≡ false) → filter p (numbers_from a k) ≡ []
none_of p a zero h = refl
none_of p a (suc k) h = filter_off p a (numbers_from (a + 1) k) (h a (omega arith) (omega arith)) ∙ none_of p (a + 1) k (λ n l m. h n (omega arith) (omega arith))

first_at : (p : ℕ → Bool) (a k n : ℕ) → a ≡ n → p n ≡ true → first (filter p (numbers_from a (suc k))) ≡ Some n
first_at p a k n e t = ap first (filter_on p a (numbers_from (a + 1) k) (ap p e ∙ t)) ∙ ap Some e

first_of : (p : ℕ → Bool) (a k n : ℕ) → a ≤ n → n < a + k → p n ≡ true → ((s : ℕ) → a ≤ s → s < n → p s ≡ false) → first (filter p (numbers_from a k)) ≡ Some n
first_of p a zero n l m t h = absurd (omega arith)
first_of p a (suc k) n l m t h = elim (order a n) [
  | inl b ↦ ap first (filter_off p a (numbers_from (a + 1) k) (h a (omega arith) b)) ∙ first_of p (a + 1) k n (omega arith) (omega arith) t (λ s i j. h s (omega arith) j)
  | inr b ↦ first_at p a k n (omega arith) t
]

-- ---- the numbers of an epoch ----

start_cases : (epoch trim : ℕ) (b : Bool) → nat_lt trim (numbered epoch 1) ≡ b → numbered epoch (if b then 1 else trim + 1 - numbered epoch 0) ≡ max (numbered epoch 1) (trim + 1)
start_cases epoch trim true h = let l : trim < numbered epoch 1 = grind (arith, nat_tests) in omega arith
start_cases epoch trim false h = let l : numbered epoch 1 ≤ trim = grind (arith, nat_tests) in omega arith

start_is : (epoch trim : ℕ) → numbered epoch (first_above epoch trim) ≡ max (numbered epoch 1) (trim + 1)
start_is epoch trim = start_cases epoch trim (nat_lt trim (numbered epoch 1)) refl

-- the numbers that stand above the trim and below the end
inside : (epoch end f start n : ℕ) → numbered epoch f ≡ start → n < numbered epoch f + (end - f) → numbered epoch f ≤ n → n < numbered epoch end
inside epoch end f start n e l m = omega arith

reaches : (epoch end f n : ℕ) → n < numbered epoch end → numbered epoch f ≤ n → n < numbered epoch f + (end - f)
reaches epoch end f n l m = omega arith

has : (o : Option Entry) → (o ≡ None → ⊥) → is_none o ≡ false
has None h = absurd (h refl)
has (Some e) h = refl

lacks_it : (o : Option Entry) → o ≡ None → is_none o ≡ true
lacks_it o h = ap is_none h

at_most : {x k : ℕ} → nat_le x k ≡ true → x ≤ k
at_most h = grind (arith, nat_tests)

is_at_most : {x k : ℕ} → x ≤ k → nat_le x k ≡ true
is_at_most h = grind (arith, nat_tests)

-- what is in the range of a clean epoch, and has no entry, is missing
ranged : (g : Log) (e : ℕ) (y : Summary) (n : ℕ) → nat_le e g.lost_to ≡ true → numbered e (first_above e g.trim) ≤ n → n < numbered e (first_above e g.trim) + (y.end - first_above e g.trim) → find n g.entries ≡ None → Lacks g e y n
ranged g e y n t l m f =
    let s = start_is e g.trim in
    (at_most t, (omega arith, (omega arith, (inside e y.end (first_above e g.trim) _ n refl m l, f))))

missing_if : (g : Log) (s : ℕ × Summary) → nat_le s.0 g.lost_to ≡ true → missing_of g s ≡ filter (λ n. is_none (find n g.entries)) (numbers_of g s.0 s.1)
missing_if g s h = ap (λ (b : Bool). if b then filter (λ n. is_none (find n g.entries)) (numbers_of g s.0 s.1) else []) h

missing_unless : (g : Log) (s : ℕ × Summary) → nat_le s.0 g.lost_to ≡ false → missing_of g s ≡ []
missing_unless g s h = ap (λ (b : Bool). if b then filter (λ n. is_none (find n g.entries)) (numbers_of g s.0 s.1) else []) h

-- ---- nothing is missing ----

none_at : (g : Log) (s : ℕ × Summary) (b : Bool) → nat_le s.0 g.lost_to ≡ b → find s.0 g.summaries ≡ Some s.1 → HasAll g → missing_of g s ≡ []
none_at g s true t c a = missing_if g s t ∙ none_of (λ n. is_none (find n g.entries)) (numbered s.0 (first_above s.0 g.trim)) (s.1.end - first_above s.0 g.trim) (λ n l m. has (find n g.entries) (λ f. a s.0 s.1 n c (ranged g s.0 s.1 n t l m f)))
none_at g s false t c a = missing_unless g s t

none_in : (g : Log) (m : List (ℕ × Summary)) → AllByRecursion (λ s. find s.0 g.summaries ≡ Some s.1) m → HasAll g → flat_map (missing_of g) m ≡ []
none_in g [] c a = refl
none_in g (s ∷ m) c a = ap (λ r. r ++ flat_map (missing_of g) m) (none_at g s (nat_le s.0 g.lost_to) refl c.0 a) ∙ none_in g m c.1 a

pub none_missing : (g : Log) → Ordered g.summaries → HasAll g → first (missing g) ≡ None
unfolding missing
none_missing g o a = ap first (none_in g g.summaries (found g.summaries o) a)

-- ---- the lowest one is missing ----

first_there : (xs ys : List ℕ) (n : ℕ) → first xs ≡ Some n → first (xs ++ ys) ≡ Some n
first_there [] ys n h = absurd cc
first_there (x ∷ xs) ys n h = h

-- a clean epoch up to that of the number
lowest_at : (g : Log) (n : ℕ) (w : IsLowest g n) (s : ℕ × Summary) → nat_le s.0 g.lost_to ≡ true → find s.0 g.summaries ≡ Some s.1 → s.0 ≤ w.epoch
    → (first (missing_of g s) ≡ Some n) ⊎ ((missing_of g s ≡ []) × (numbered s.0 s.1.end ≤ n))
lowest_at g n w s t c o =
    let f = first_above s.0 g.trim in
    let b = start_is s.0 g.trim in
    let from : numbered s.0 f ≤ n = (let i = w.lacks.1.0 in let j = w.lacks.1.1.0 in omega arith) in
    elim (order n (numbered s.0 f + (s.1.end - f))) [
      | inl l ↦ inl (ap first (missing_if g s t) ∙ first_of (λ n. is_none (find n g.entries)) (numbered s.0 f) (s.1.end - f) n from l (lacks_it (find n g.entries) w.lacks.1.1.1.1)
          (λ k i j. has (find k g.entries) (λ h. let z = w.whole s.0 s.1 k c (ranged g s.0 s.1 k t i (omega arith) h) in omega arith)))
      | inr l ↦ inr (
        missing_if g s t ∙ none_of (λ n. is_none (find n g.entries)) (numbered s.0 f) (s.1.end - f)
            (λ k i j. has (find k g.entries) (λ h. let z = w.whole s.0 s.1 k c (ranged g s.0 s.1 k t i j h) in omega arith)),
        omega arith,
      )
    ]

-- an epoch stands here or behind
module _ {X : Type 0} where
  here_cases : (k : ℕ) (e : ℕ × X) (m : List (ℕ × X)) (v : X) (b : Bool) → is_at (nat_cmp k) e.0 ≡ b → cond b (Some e.1) (find k m) ≡ Some v → ((k ≡ e.0) × (e.1 ≡ v)) ⊎ (find k m ≡ Some v)
  here_cases k e m v true t h = inl (same_key k e.0 t, (let z = h in cc))
  here_cases k e m v false t h = inr h

  here_or : (k : ℕ) (e : ℕ × X) (m : List (ℕ × X)) (v : X) → find k (e ∷ m) ≡ Some v → ((k ≡ e.0) × (e.1 ≡ v)) ⊎ (find k m ≡ Some v)
  unfolding find
  here_or k e m v h = here_cases k e m v (is_at (nat_cmp k) e.0) refl h

  -- what is found among keys above one is above it
  pub above_it : (x k : ℕ) (m : List (ℕ × X)) (v : X) → AllByRecursion (λ y. nat_cmp x y ≡ Less) (map.keys_of m) → find k m ≡ Some v → x < k
  above_it x k [] v a h = absurd (let z = sym (find-empty k) ∙ h in cc)
  above_it x k (e ∷ m) v a h = elim (here_or k e m v h) [
    | inl s ↦ let l = a.0 in let t = s.0 in grind (arith, nat_tests)
    | inr s ↦ above_it x k m v a.1 s
  ]

later : (g : Log) (n : ℕ) (s : ℕ × Summary) (m : List (ℕ × Summary)) → missing_of g s ≡ [] → first (flat_map (missing_of g) m) ≡ Some n → first (flat_map (missing_of g) (s ∷ m)) ≡ Some n
later g n s m h i = ap (λ r. first (r ++ flat_map (missing_of g) m)) h ∙ i

lowest_in : (g : Log) (n : ℕ) (w : IsLowest g n) (m : List (ℕ × Summary)) → AllByRecursion (λ s. find s.0 g.summaries ≡ Some s.1) m → Ordered m → find w.epoch m ≡ Some w.summary → first (flat_map (missing_of g) m) ≡ Some n
unfolding IsStrictlySortedBy
lowest_in g n w [] c o h = absurd (let z = sym (find-empty w.epoch) ∙ h in cc)
lowest_in g n w (s ∷ m) c o h = elim (here_or w.epoch s m w.summary h) [
  | inl i ↦ elim (lowest_at g n w s (is_at_most (let a = w.lacks.0 in omega (arith, i.0))) c.0 (omega (arith, i.0))) [
    | inl f ↦ first_there (missing_of g s) (flat_map (missing_of g) m) n f
    | inr f ↦ absurd (let a = w.lacks.1.1.1.0 in let b = ap (λ (y : Summary). y.end) i.1 in omega (arith, i.0, f.1, a, b))
  ]
  | inr i ↦
      let l = above_it s.0 w.epoch m w.summary o.0 i in
      elim (lowest_at g n w s (is_at_most (let a = w.lacks.0 in omega arith)) c.0 (omega arith)) [
        | inl f ↦ first_there (missing_of g s) (flat_map (missing_of g) m) n f
        | inr f ↦ later g n s m f.0 (lowest_in g n w m c.1 o.1 i)
      ]
]

pub lowest_is : (g : Log) (n : ℕ) → Ordered g.summaries → IsLowest g n → first (missing g) ≡ Some n
unfolding missing
lowest_is g n o w = lowest_in g n w g.summaries (found g.summaries o) o w.clean
