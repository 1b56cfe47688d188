-- What holds of each element of a list or table holds after a change.
use Rattle.std.proofs.Common.{◌≡◌, ℕ, refl, sym, subst, Bool, true, false, cond, List, [], ◌∷◌, ◌++◌, Some, Ordering, Less, Equal, Greater, nat_cmp}
use Rattle.std.specs.Prelude.{not}
use Rattle.std.specs.Ordering.{match_ordering}
use Rattle.std.specs.FinMap.{nat_cmp-IsAntisymmetric}
use Rattle.std.specs.BTreeMap.{is_at}
use Rattle.std.specs.Map as map
use Rattle.std.specs.List.{filter, AllByRecursion}
use Rattle.std.proofs.lemmas.Bool.{cond_both}
use Rattle.ld_table.specs.Table.{find, put, take_out, keep, keep_keys, passes}
use Rattle.ld_table.proofs.Laws.{same_key}

module _ {X : Type 0} (P : X → Type 0) where
  pub all-append : (xs ys : List X) → AllByRecursion P xs → AllByRecursion P ys → AllByRecursion P (xs ++ ys)
  all-append [] ys a b = b
  all-append (x ∷ xs) ys a b = (a.0, all-append xs ys a.1 b)

  pub all-filter : (p : X → Bool) (xs : List X) → AllByRecursion P xs → AllByRecursion P (filter p xs)
  all-filter p [] a = tt
  all-filter p (x ∷ xs) a = cond_both (p x) (x ∷ filter p xs) (filter p xs) (AllByRecursion P) (λ t. (a.0, all-filter p xs a.1)) (λ t. all-filter p xs a.1)

  pub all_if : (b : Bool) (xs : List X) → AllByRecursion P xs → AllByRecursion P (cond b xs [])
  all_if b xs a = cond_both b xs [] (AllByRecursion P) (λ t. a) (λ t. tt)

-- ---- tables ----

module _ {X : Type 0} (P : ℕ × X → Type 0) where
  put_step : (o : Ordering) (k : ℕ) (v : X) (e : ℕ × X) (m : List (ℕ × X)) → nat_cmp k e.0 ≡ o → P (k, v) → P e → AllByRecursion P m → AllByRecursion P (put k v m)
      → AllByRecursion P (match_ordering o ((k, v) ∷ e ∷ m) ((e.0, v) ∷ m) (e ∷ put k v m))
  put_step Less k v e m h p q a ih = (p, (q, a))
  put_step Equal k v e m h p q a ih = (subst (λ x. P (x, v)) (nat_cmp-IsAntisymmetric k e.0 h) p, a)
  put_step Greater k v e m h p q a ih = (q, ih)

  pub all-put : (k : ℕ) (v : X) (m : List (ℕ × X)) → P (k, v) → AllByRecursion P m → AllByRecursion P (put k v m)
  unfolding put
  all-put k v [] p a = (p, tt)
  all-put k v (e ∷ m) p a = put_step (nat_cmp k e.0) k v e m refl p a.0 a.1 (all-put k v m p a.1)

  pub all-keep : (p : ℕ → X → Bool) (m : List (ℕ × X)) → AllByRecursion P m → AllByRecursion P (keep p m)
  unfolding keep
  all-keep p m a = all-filter P (λ e. passes p e.0 (find e.0 m)) m a

  pub all-keep_keys : (p : ℕ → Bool) (m : List (ℕ × X)) → AllByRecursion P m → AllByRecursion P (keep_keys p m)
  unfolding keep_keys
  all-keep_keys p m a = all-filter P (λ e. p e.0) m a

  pub all-take_out : (k : ℕ) (m : List (ℕ × X)) → AllByRecursion P m → AllByRecursion P (take_out k m)
  unfolding take_out
  all-take_out k m a = all-filter P (λ e. not (is_at (nat_cmp k) e.0)) m a

  found_step : (b : Bool) (q : ℕ) (e : ℕ × X) (m : List (ℕ × X)) (v : X) → is_at (nat_cmp q) e.0 ≡ b → P e → (map.lookup (is_at (nat_cmp q)) m ≡ Some v → P (q, v)) → cond b (Some e.1) (map.lookup (is_at (nat_cmp q)) m) ≡ Some v → P (q, v)
  found_step true q e m v h p ih f = let i : e.1 ≡ v = cc in subst (λ x. P (q, x)) i (subst (λ x. P (x, e.1)) (sym (same_key q e.0 h)) p)
  found_step false q e m v h p ih f = ih f

  pub all-find : (q : ℕ) (m : List (ℕ × X)) (v : X) → AllByRecursion P m → find q m ≡ Some v → P (q, v)
  unfolding find
  all-find q [] v a f = absurd cc
  all-find q (e ∷ m) v a f = found_step (is_at (nat_cmp q) e.0) q e m v refl a.0 (all-find q m v a.1) f
