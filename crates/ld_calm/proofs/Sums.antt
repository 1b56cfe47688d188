-- A sum over named actors, of which one is put anew.
use Rattle.std.proofs.Common.{◌≡◌, ◌≤◌, ℕ, suc, ◌+◌, inl, inr, refl, ap, sym, subst, Bool, true, false, cond, List, [], ◌∷◌, Some, arith}
use Rattle.std.proofs.lemmas.Bool.{cases_Bool}
use Rattle.std.specs.Map as map
use Rattle.ld_table.specs.Named.{same, find_named, put_named}
use Rattle.ld_table.specs.Words.{how_many}
use Rattle.ld_table.proofs.NameLaws.{same-true}
use Rattle.ld_safety.proofs.Lists.{cond_both, not_none, Some_inj, how_many-yes, how_many-no}

abbrev pub sum_of : {X : Type 0} → (X → ℕ) → List (List ℕ × X) → ℕ
sum_of f [] = 0
sum_of f (e ∷ m) = f e.1 + sum_of f m

module _ {X : Type 0} (f : X → ℕ) where
  put_step : (b : Bool) (name : List ℕ) (old new : X) (e : List ℕ × X) (m : List (List ℕ × X)) → cond b (Some e.1) (map.lookup (same name) m) ≡ Some old → (map.lookup (same name) m ≡ Some old → sum_of f (put_named name new m) + f old ≡ sum_of f m + f new)
      → sum_of f (cond b ((e.0, new) ∷ m) (e ∷ put_named name new m)) + f old ≡ f e.1 + sum_of f m + f new
  put_step true name old new e m h ih = let z : f e.1 ≡ f old = ap f (Some_inj h) in omega arith
  put_step false name old new e m h ih = let z = ih h in omega arith

  -- the old one's part goes, and the new one's comes
  pub sum_put : (name : List ℕ) (old new : X) (m : List (List ℕ × X)) → find_named name m ≡ Some old → sum_of f (put_named name new m) + f old ≡ sum_of f m + f new
  unfolding put_named find_named
  sum_put name old new [] h = absurd (not_none h)
  sum_put name old new (e ∷ m) h = put_step (same name e.0) name old new e m h (sum_put name old new m)

-- the same where the part of an actor depends on its name
abbrev pub sum_by : {X : Type 0} → (List ℕ → X → ℕ) → List (List ℕ × X) → ℕ
sum_by f [] = 0
sum_by f (e ∷ m) = f e.0 e.1 + sum_by f m

module _ {X : Type 0} (f : List ℕ → X → ℕ) where
  by_step : (b : Bool) (name : List ℕ) (old new : X) (e : List ℕ × X) (m : List (List ℕ × X)) → same name e.0 ≡ b → cond b (Some e.1) (map.lookup (same name) m) ≡ Some old → (map.lookup (same name) m ≡ Some old → sum_by f (put_named name new m) + f name old ≡ sum_by f m + f name new)
      → sum_by f (cond b ((e.0, new) ∷ m) (e ∷ put_named name new m)) + f name old ≡ f e.0 e.1 + sum_by f m + f name new
  by_step true name old new e m t h ih = let k : name ≡ e.0 = same-true name e.0 t in let z : f e.0 e.1 ≡ f name old = (λ i. f (sym k i) (Some_inj h i)) in let w : f e.0 new ≡ f name new = ap (λ n. f n new) (sym k) in omega arith
  by_step false name old new e m t h ih = let z = ih h in omega arith

  pub sum_by_put : (name : List ℕ) (old new : X) (m : List (List ℕ × X)) → find_named name m ≡ Some old → sum_by f (put_named name new m) + f name old ≡ sum_by f m + f name new
  unfolding put_named find_named
  sum_by_put name old new [] h = absurd (not_none h)
  sum_by_put name old new (e ∷ m) h = by_step (same name e.0) name old new e m refl h (sum_by_put name old new m)

-- how many pass a test: no more where the new one passes only where the old one did
module _ {X : Type 0} (p : X → Bool) where
  count_step : (b : Bool) (name : List ℕ) (old new : X) (e : List ℕ × X) (m : List (List ℕ × X)) → cond b (Some e.1) (map.lookup (same name) m) ≡ Some old → (p new ≡ true → p old ≡ true) → (map.lookup (same name) m ≡ Some old → how_many (λ (d : List ℕ × X). p d.1) (put_named name new m) ≤ how_many (λ (d : List ℕ × X). p d.1) m)
      → how_many (λ (d : List ℕ × X). p d.1) (cond b ((e.0, new) ∷ m) (e ∷ put_named name new m)) ≤ how_many (λ (d : List ℕ × X). p d.1) (e ∷ m)
  count_step true name old new e m h w ih = let z : e.1 ≡ old = Some_inj h in elim (cases_Bool (p new)) [
    | inl t ↦ omega (arith, how_many-yes (λ (d : List ℕ × X). p d.1) (e.0, new) m t, how_many-yes (λ (d : List ℕ × X). p d.1) e m (subst (λ x. p x ≡ true) (sym z) (w t)))
    | inr t ↦ (let k = how_many-no (λ (d : List ℕ × X). p d.1) (e.0, new) m t in cond_both (p e.1) (suc (how_many (λ (d : List ℕ × X). p d.1) m)) (how_many (λ (d : List ℕ × X). p d.1) m) (λ n. how_many (λ (d : List ℕ × X). p d.1) ((e.0, new) ∷ m) ≤ n) (λ u. omega arith) (λ u. omega arith))
  ]
  count_step false name old new e m h w ih = let z = ih h in elim (cases_Bool (p e.1)) [
    | inl t ↦ omega (arith, how_many-yes (λ (d : List ℕ × X). p d.1) e (put_named name new m) t, how_many-yes (λ (d : List ℕ × X). p d.1) e m t)
    | inr t ↦ omega (arith, how_many-no (λ (d : List ℕ × X). p d.1) e (put_named name new m) t, how_many-no (λ (d : List ℕ × X). p d.1) e m t)
  ]

  pub count_put : (name : List ℕ) (old new : X) (m : List (List ℕ × X)) → find_named name m ≡ Some old → (p new ≡ true → p old ≡ true) → how_many (λ (d : List ℕ × X). p d.1) (put_named name new m) ≤ how_many (λ (d : List ℕ × X). p d.1) m
  unfolding put_named find_named
  count_put name old new [] h w = absurd (not_none h)
  count_put name old new (e ∷ m) h w = count_step (same name e.0) name old new e m h w (λ k. count_put name old new m k w)
