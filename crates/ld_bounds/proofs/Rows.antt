-- Appends under consecutive numbers stay so.
use Rattle.std.proofs.Common.{◌≡◌, ◌≤◌, ◌<◌, ℕ, suc, ◌+◌, refl, ap, subst, Bool, true, false, cond, List, [], ◌∷◌, ◌++◌, length, Some, Ordering, Less, Equal, Greater, nat_cmp, arith}
use Rattle.std.specs.Ordering.{match_ordering, is_eq}
use Rattle.std.specs.BTreeMap.{is_at}
use Rattle.std.specs.List.{AllByRecursion}
use Rattle.std.proofs.lemmas.Bool.{cond_both}
use Rattle.std.proofs.lemmas.Bool.Decides.{nat_tests}
use Rattle.ld_table.specs.Table.{find, put}
use Rattle.ld_table.proofs.Laws.{same_key}
use Rattle.ld_ids.specs.declared.set.Spec.{Spec}
use Rattle.ld_msg.specs.Sequencer.{Append, is_acked, acked_first, unacked_from, raised, next_wave}
use Rattle.ld_sequencer_bounds.specs.Sequencers.{IsAppend}
use Rattle.ld_bounds.specs.Sequencers.{IsInWave, AreNumbered}

less : (x y : ℕ) → nat_cmp x y ≡ Less → x < y
less x y h = grind (arith, nat_tests)

module _ {X : Type 0} where
  -- as many, under the same numbers
  pub record Kept (n : ℕ) (m k : List (ℕ × X)) : Type 0 where
    pub numbers : AreNumbered n k
    pub many : length k ≡ length m

  least_step : (b : Bool) (n k : ℕ) (e : ℕ × X) (m : List (ℕ × X)) (p : X) → is_at (nat_cmp k) e.0 ≡ b → e.0 ≡ n → (find k m ≡ Some p → n + 1 ≤ k) → cond b (Some e.1) (find k m) ≡ Some p → n ≤ k
  least_step true n k e m p h q ih f = let z = same_key k e.0 h in omega arith
  least_step false n k e m p h q ih f = let z = ih f in omega arith

  least : (n k : ℕ) (m : List (ℕ × X)) (p : X) → AreNumbered n m → find k m ≡ Some p → n ≤ k
  unfolding find
  least n k [] p a f = absurd cc
  least n k (e ∷ m) p a f = least_step (is_at (nat_cmp k) e.0) n k e m p refl a.0 (least (n + 1) k m p a.1) f

  put_step : (o : Ordering) (n k : ℕ) (v : X) (e : ℕ × X) (m : List (ℕ × X)) (p : X) → nat_cmp k e.0 ≡ o → e.0 ≡ n → AreNumbered (n + 1) m → cond (is_eq o) (Some e.1) (find k m) ≡ Some p → (find k m ≡ Some p → Kept (n + 1) m (put k v m))
      → Kept n (e ∷ m) (match_ordering o ((k, v) ∷ e ∷ m) ((e.0, v) ∷ m) (e ∷ put k v m))
  put_step Less n k v e m p h q a f ih = absurd (let z = less k e.0 h in let w = least (n + 1) k m p a f in omega arith)
  put_step Equal n k v e m p h q a f ih = record { numbers = (q, a); many = refl }
  put_step Greater n k v e m p h q a f ih = let r = ih f in record { numbers = (q, r.numbers); many = ap suc r.many }

  -- what stands under a number is replaced
  pub put_kept : (n k : ℕ) (v : X) (m : List (ℕ × X)) (p : X) → AreNumbered n m → find k m ≡ Some p → Kept n m (put k v m)
  unfolding find put
  put_kept n k v [] p a f = absurd cc
  put_kept n k v (e ∷ m) p a f = put_step (nat_cmp k e.0) n k v e m p refl a.0 a.1 f (put_kept (n + 1) k v m p a.1)

  pub numbered_end : (n l : ℕ) (v : X) (m : List (ℕ × X)) → l ≡ n + length m → AreNumbered n m → AreNumbered n (m ++ (l, v) ∷ [])
  numbered_end n l v [] q a = (omega arith, tt)
  numbered_end n l v (e ∷ m) q a = (a.0, numbered_end (n + 1) l v m (omega arith) a.1)

  pub length_end : (v : ℕ × X) (m : List (ℕ × X)) → length (m ++ v ∷ []) ≡ length m + 1
  length_end v [] = refl
  length_end v (e ∷ m) = let h = length_end v m in omega arith

module _ (s : Spec) where
  acked_or : (b : Bool) (p : ℕ × Append) (m : List (ℕ × Append)) → acked_first s m + length (unacked_from s m) ≡ length m → cond b (suc (acked_first s m)) 0 + length (cond b (unacked_from s m) (p ∷ m)) ≡ suc (length m)
  acked_or true p m ih = omega arith
  acked_or false p m ih = omega arith

  pub acked_parts : (m : List (ℕ × Append)) → acked_first s m + length (unacked_from s m) ≡ length m
  acked_parts [] = refl
  acked_parts (p ∷ m) = acked_or (is_acked s p.1) p m (acked_parts m)

  numbered_or : (b : Bool) (n : ℕ) (p : ℕ × Append) (m : List (ℕ × Append)) → p.0 ≡ n → AreNumbered (n + 1) m → AreNumbered (n + 1 + acked_first s m) (unacked_from s m) → AreNumbered (n + cond b (suc (acked_first s m)) 0) (cond b (unacked_from s m) (p ∷ m))
  numbered_or true n p m q a ih = let e : n + 1 + acked_first s m ≡ n + suc (acked_first s m) = omega arith in subst (λ k. AreNumbered k (unacked_from s m)) e ih
  numbered_or false n p m q a ih = let e : n ≡ n + 0 = omega arith in subst (λ k. AreNumbered k (p ∷ m)) e (q, a)

  pub unacked_numbered : (n : ℕ) (m : List (ℕ × Append)) → AreNumbered n m → AreNumbered (n + acked_first s m) (unacked_from s m)
  unacked_numbered n [] a = tt
  unacked_numbered n (p ∷ m) a = numbered_or (is_acked s p.1) n p m a.0 a.1 (unacked_numbered (n + 1) m a.1)

  pub all-unacked : (P : ℕ × Append → Type 0) (m : List (ℕ × Append)) → AllByRecursion P m → AllByRecursion P (unacked_from s m)
  all-unacked P [] a = tt
  all-unacked P (p ∷ m) a = cond_both (is_acked s p.1) (unacked_from s m) (p ∷ m) (AllByRecursion P) (λ t. all-unacked P m a.1) (λ t. a)

  pub raised_length : (m : List (ℕ × Append)) → length (raised s m) ≡ length m
  raised_length [] = refl
  raised_length (p ∷ m) = ap suc (raised_length m)

  pub raised_numbered : (n : ℕ) (m : List (ℕ × Append)) → AreNumbered n m → AreNumbered n (raised s m)
  raised_numbered n [] a = tt
  raised_numbered n (p ∷ m) a = (a.0, raised_numbered (n + 1) m a.1)

  pub raised_are : (own : ℕ) (m : List (ℕ × Append)) → AllByRecursion (IsAppend own) m → AllByRecursion (IsAppend own) (raised s m)
  raised_are own [] a = tt
  raised_are own (p ∷ m) a = (
    cond_both (is_acked s p.1) p.1 (record { payload = p.1.payload; wave = next_wave p.1.wave; stored = p.1.stored }) (λ (x : Append). IsAppend own (p.0, x)) (λ t. a.0)
        (λ t. record { epoch_is = a.0.epoch_is; from_one = a.0.from_one; place = a.0.place; short = a.0.short }),
    raised_are own m a.1,
  )

  pub raised_waves : (m : List (ℕ × Append)) → AllByRecursion IsInWave m → AllByRecursion IsInWave (raised s m)
  raised_waves [] a = tt
  raised_waves (p ∷ m) a = (
    cond_both (is_acked s p.1) p.1 (record { payload = p.1.payload; wave = next_wave p.1.wave; stored = p.1.stored }) (λ (x : Append). IsInWave (p.0, x)) (λ t. a.0) (λ t. omega arith),
    raised_waves m a.1,
  )
