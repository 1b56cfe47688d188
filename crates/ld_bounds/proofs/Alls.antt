-- What holds of each element of a list, or of a table by names, holds after a change.
use Rattle.std.proofs.Common.{◌≡◌, ℕ, zero, suc, subst, Bool, true, false, cond, List, [], ◌∷◌, Some, slice_get}
use Rattle.std.specs.Map as map
use Rattle.std.specs.List.{AllByRecursion}
use Rattle.ld_table.specs.Named.{same, find_named, put_named}

module _ {X : Type 0} (P : X → Type 0) where
  pub all-slice_get : (xs : List X) (i : ℕ) (x : X) → AllByRecursion P xs → slice_get xs i ≡ Some x → P x
  all-slice_get [] i x a h = absurd cc
  all-slice_get (y ∷ xs) zero x a h = let e : y ≡ x = cc in subst P e a.0
  all-slice_get (y ∷ xs) (suc i) x a h = all-slice_get xs i x a.1 h

pub all_weaker : {X : Type 0} (P Q : X → Type 0) (xs : List X) → ((x : X) → P x → Q x) → AllByRecursion P xs → AllByRecursion Q xs
all_weaker P Q [] f a = tt
all_weaker P Q (x ∷ xs) f a = (f x a.0, all_weaker P Q xs f a.1)

module _ {X : Type 0} (P : X → Type 0) where
  named_step : (b : Bool) (k : List ℕ) (v : X) (e : List ℕ × X) (m : List (List ℕ × X)) → P v → P e.1 → AllByRecursion (λ (d : List ℕ × X). P d.1) m → AllByRecursion (λ (d : List ℕ × X). P d.1) (put_named k v m)
      → AllByRecursion (λ (d : List ℕ × X). P d.1) (cond b ((e.0, v) ∷ m) (e ∷ put_named k v m))
  named_step true k v e m p q a ih = (p, a)
  named_step false k v e m p q a ih = (q, ih)

  pub all-put_named : (k : List ℕ) (v : X) (m : List (List ℕ × X)) → P v → AllByRecursion (λ (d : List ℕ × X). P d.1) m → AllByRecursion (λ (d : List ℕ × X). P d.1) (put_named k v m)
  unfolding put_named
  all-put_named k v [] p a = (p, tt)
  all-put_named k v (e ∷ m) p a = named_step (same k e.0) k v e m p a.0 a.1 (all-put_named k v m p a.1)

  named_found : (b : Bool) (k : List ℕ) (e : List ℕ × X) (m : List (List ℕ × X)) (v : X) → P e.1 → (map.lookup (same k) m ≡ Some v → P v) → cond b (Some e.1) (map.lookup (same k) m) ≡ Some v → P v
  named_found true k e m v p ih f = let i : e.1 ≡ v = cc in subst P i p
  named_found false k e m v p ih f = ih f

  pub all-find_named : (k : List ℕ) (m : List (List ℕ × X)) (v : X) → AllByRecursion (λ (d : List ℕ × X). P d.1) m → find_named k m ≡ Some v → P v
  unfolding find_named
  all-find_named k [] v a f = absurd cc
  all-find_named k (e ∷ m) v a f = named_found (same k e.0) k e m v a.0 (all-find_named k m v a.1) f
