-- What a map with places holds after a change.
use Rattle.std.proofs.Common.{◌≡◌, ◌⊎◌, inl, inr, ◌<◌, drop, nat_lt, nat_le, ℕ, Bool, true, false, cond, List, [], ◌∷◌, Option, Some, None, refl, ap, sym, ◌∙◌, subst, arith, eqb, nat_cmp, Less, is_some, Result, Ok, Err, OnOk, OnErr}
use Rattle.std.specs.Ordering.{is_eq}
use Rattle.std.specs.BTreeMap.{is_at, insert_entry}
use Rattle.std.specs.Map as map
use Rattle.std.specs.List.{filter, AllByRecursion}
use Rattle.std.specs.List.Sorted.{IsStrictlySortedBy}
use Rattle.std.proofs.lemmas.Bool.{eq-eqb, eqb-true}
use Rattle.std.proofs.lemmas.Bool.Decides.{nat_tests}
use Rattle.ld_table.specs.Table.{find, put, take_out, keep, keep_keys, Ordered}
use Rattle.ld_table.proofs.Laws.{find-put, find-take_out, find-keep, find-keep_keys, same_key, kept}
use Rattle.ld_table.proofs.Order.{Ordered-put, Ordered-take_out, Ordered-keep, same_table, take_out_is}
use Rattle.ld_msg.specs.declared.msg.Entry.{Entry}
use Rattle.ld_op.specs.Places.{filled, filled_one, has_place, place_passes, starts_by, AreUnderTheirNumbers}

by_result : {T E : Type 0} (r : Result T E) (P Q : Type 0) → OnOk r P → OnErr r Q → (Q → ⊥) → P
by_result (Ok v) P Q p q n = p
by_result (Err e) P Q p q n = absurd (n q)

still : (b c : Bool) → c ≡ true → cond b true c ≡ true
still true c h = refl
still false c h = h

same_both : {A : Type 0} (b : Bool) (x : A) → cond b x x ≡ x
same_both true x = refl
same_both false x = refl

one_of : (q k : ℕ) (b o : Bool) → eqb q k ≡ b → cond b true o ≡ true → (q ≡ k) ⊎ (o ≡ true)
one_of q k true o e h = inl (eqb-true q k e)
one_of q k false o e h = inr h

module _ {X : Type 0} where
  abbrev pub flat : Option (Option X) → Option X
  flat None = None
  flat (Some o) = o

  -- ---- the order ----

  above-filled_one : (x k : ℕ) (o : Option X) (m : List (ℕ × X)) → nat_cmp x k ≡ Less → AllByRecursion (λ y. nat_cmp x y ≡ Less) (map.keys_of m) → AllByRecursion (λ y. nat_cmp x y ≡ Less) (map.keys_of (filled_one k o m))
  above-filled_one x k None m h a = a
  above-filled_one x k (Some v) m h a = (h, a)

  pub above-filled : (x : ℕ) (m : List (ℕ × Option X)) → AllByRecursion (λ y. nat_cmp x y ≡ Less) (map.keys_of m) → AllByRecursion (λ y. nat_cmp x y ≡ Less) (map.keys_of (filled m))
  unfolding filled
  above-filled x [] a = tt
  above-filled x (s ∷ m) a = above-filled_one x s.0 s.1 (filled m) a.0 (above-filled x m a.1)

  ordered_one : (k : ℕ) (o : Option X) (m : List (ℕ × X)) → AllByRecursion (λ y. nat_cmp k y ≡ Less) (map.keys_of m) → Ordered m → Ordered (filled_one k o m)
  unfolding IsStrictlySortedBy
  ordered_one k None m a h = h
  ordered_one k (Some v) m a h = (a, h)

  pub Ordered-filled : (m : List (ℕ × Option X)) → Ordered m → Ordered (filled m)
  unfolding filled IsStrictlySortedBy
  Ordered-filled [] h = tt
  Ordered-filled (s ∷ m) h = ordered_one s.0 s.1 (filled m) (above-filled s.0 m h.0) (Ordered-filled m h.1)

  -- ---- look-ups ----

  pub find_below_all : (x : ℕ) (m : List (ℕ × X)) → AllByRecursion (λ y. nat_cmp x y ≡ Less) (map.keys_of m) → find x m ≡ None
  unfolding find
  find_below_all x [] a = refl
  find_below_all x (e ∷ m) a = ap (λ c. cond c (Some e.1) (find x m)) (ap is_eq a.0) ∙ find_below_all x m a.1

  none_there : (q k : ℕ) (m : List (ℕ × X)) (b : Bool) → is_at (nat_cmp q) k ≡ b → AllByRecursion (λ y. nat_cmp k y ≡ Less) (map.keys_of m) → find q m ≡ cond b None (find q m)
  none_there q k m true h a = subst (λ x. find x m ≡ None) (sym (same_key q k h)) (find_below_all k m a)
  none_there q k m false h a = refl

  find-filled_one : (q k : ℕ) (o : Option X) (m : List (ℕ × X)) → AllByRecursion (λ y. nat_cmp k y ≡ Less) (map.keys_of m) → find q (filled_one k o m) ≡ cond (is_at (nat_cmp q) k) o (find q m)
  unfolding find
  find-filled_one q k None m a = none_there q k m (is_at (nat_cmp q) k) refl a
  find-filled_one q k (Some v) m a = refl

  flat_cond : (b : Bool) (o : Option X) (r : Option (Option X)) → flat (cond b (Some o) r) ≡ cond b o (flat r)
  flat_cond true o r = refl
  flat_cond false o r = refl

  pub find-filled : (q : ℕ) (m : List (ℕ × Option X)) → Ordered m → find q (filled m) ≡ flat (find q m)
  unfolding filled find IsStrictlySortedBy
  find-filled q [] h = refl
  find-filled q (s ∷ m) h = find-filled_one q s.0 s.1 (filled m) (above-filled s.0 m h.0) ∙ (ap (cond (is_at (nat_cmp q) s.0) s.1) (find-filled q m h.1) ∙ sym (flat_cond (is_at (nat_cmp q) s.0) s.1 (find q m)))

  -- ---- changes ----

  put_step : (b : Bool) (v : X) (r : Option (Option X)) → flat (cond b (Some (Some v)) r) ≡ cond b (Some v) (flat r)
  put_step true v r = refl
  put_step false v r = refl

  -- an entry under a key
  pub filled-put : (k : ℕ) (v : X) (m : List (ℕ × Option X)) → Ordered m → filled (put k (Some v) m) ≡ put k v (filled m)
  filled-put k v m h = same_table _ _ (Ordered-filled _ (Ordered-put k (Some v) m h)) (Ordered-put k v _ (Ordered-filled m h))
      (λ q. find-filled q _ (Ordered-put k (Some v) m h) ∙ (ap flat (find-put q k (Some v) m) ∙ (put_step (eqb q k) v (find q m) ∙ (ap (cond (eqb q k) (Some v)) (sym (find-filled q m h)) ∙ sym (find-put q k v (filled m))))))

  place_step : (q k : ℕ) (m : List (ℕ × Option X)) (b : Bool) → eqb q k ≡ b → find k m ≡ None → flat (cond b (Some None) (find q m)) ≡ flat (find q m)
  place_step q k m true h n = subst (λ x. None ≡ flat (find x m)) (sym (eqb-true q k h)) (sym (ap flat n))
  place_step q k m false h n = refl

  -- a place where nothing is
  pub filled-place : (k : ℕ) (m : List (ℕ × Option X)) → Ordered m → find k m ≡ None → filled (put k None m) ≡ filled m
  filled-place k m h n = same_table _ _ (Ordered-filled _ (Ordered-put k None m h)) (Ordered-filled m h)
      (λ q. find-filled q _ (Ordered-put k None m h) ∙ (ap flat (find-put q k None m) ∙ (place_step q k m (eqb q k) refl n ∙ sym (find-filled q m h))))

  kept_some : (t : ℕ → X → Bool) (k : ℕ) (o : Option (Option X)) → ((v : X) → o ≡ Some (Some v) → t k v ≡ true) → is_some o ≡ true → is_some (kept (place_passes t) k o) ≡ true
  kept_some t k None h s = s
  kept_some t k (Some None) h s = refl
  kept_some t k (Some (Some v)) h s = ap (λ b. is_some (cond b (Some (Some v)) None)) (h v refl)

  pub place_kept : (t : ℕ → X → Bool) (k : ℕ) (m n : List (ℕ × Option X)) → n ≡ keep (place_passes t) m → ((v : X) → find k m ≡ Some (Some v) → t k v ≡ true) → has_place k m ≡ true → has_place k n ≡ true
  unfolding has_place
  place_kept t k m n e h s = ap (λ x. is_some (find k x)) e ∙ (ap is_some (find-keep k (place_passes t) m) ∙ kept_some t k (find k m) h s)

  keep_some : (p : ℕ → X → Bool) (q : ℕ) (v : X) (b : Bool) → flat (cond b (Some (Some v)) None) ≡ cond b (Some v) None
  keep_some p q v true = refl
  keep_some p q v false = refl

  keep_step : (p : ℕ → X → Bool) (q : ℕ) (o : Option (Option X)) → flat (kept (place_passes p) q o) ≡ kept p q (flat o)
  keep_step p q None = refl
  keep_step p q (Some None) = refl
  keep_step p q (Some (Some v)) = keep_some p q v (p q v)

  pub filled-keep : (p : ℕ → X → Bool) (m : List (ℕ × Option X)) → Ordered m → filled (keep (place_passes p) m) ≡ keep p (filled m)
  filled-keep p m h = same_table _ _ (Ordered-filled _ (Ordered-keep (place_passes p) m h)) (Ordered-keep p _ (Ordered-filled m h))
      (λ q. find-filled q _ (Ordered-keep (place_passes p) m h) ∙ (ap flat (find-keep q (place_passes p) m) ∙ (keep_step p q (find q m) ∙ (ap (kept p q) (sym (find-filled q m h)) ∙ sym (find-keep q p (filled m))))))

  some_cond : (b : Bool) (o : Option X) (r : Option (Option X)) → is_some (cond b (Some o) r) ≡ cond b true (is_some r)
  some_cond true o r = refl
  some_cond false o r = refl

  keys_step : (b : Bool) (k : ℕ) (o : Option X) (xs : List (ℕ × X)) (ys : List (ℕ × Option X)) → filled ys ≡ xs → filled (cond b ((k, o) ∷ ys) ys) ≡ cond b (filled_one k o xs) xs
  unfolding filled
  keys_step true k o xs ys e = ap (filled_one k o) e
  keys_step false k o xs ys e = e

  keys_one : (p : ℕ → Bool) (k : ℕ) (o : Option X) (m : List (ℕ × X)) → cond (p k) (filled_one k o (keep_keys p m)) (keep_keys p m) ≡ keep_keys p (filled_one k o m)
  unfolding keep_keys
  keys_one p k None m = same_both (p k) (filter (λ e. p e.0) m)
  keys_one p k (Some v) m = refl

  pub filled-keep_keys : (p : ℕ → Bool) (m : List (ℕ × Option X)) → filled (keep_keys p m) ≡ keep_keys p (filled m)
  unfolding keep_keys filled
  filled-keep_keys p [] = refl
  filled-keep_keys p (s ∷ m) = keys_step (p s.0) s.0 s.1 (keep_keys p (filled m)) (keep_keys p m) (filled-keep_keys p m) ∙ keys_one p s.0 s.1 (filled m)

  -- ---- the keys above a number, from the front ----

  front_goes : (t k : ℕ) (m n : List (ℕ × X)) → nat_le k t ≡ true → cond (nat_lt t k) m n ≡ n
  front_goes t k m n h = grind (arith, nat_tests)

  pub keep_keys-front : (t : ℕ) (m : List (ℕ × X)) → starts_by t m ≡ true → keep_keys (λ k. nat_lt t k) (drop 1 m) ≡ keep_keys (λ k. nat_lt t k) m
  unfolding keep_keys
  keep_keys-front t [] h = refl
  keep_keys-front t (s ∷ m) h = sym (front_goes t s.0 _ _ h)

  all_above : (t x : ℕ) (m : List (ℕ × X)) → t < x → AllByRecursion (λ y. nat_cmp x y ≡ Less) (map.keys_of m) → keep_keys (λ k. nat_lt t k) m ≡ m
  unfolding keep_keys
  all_above t x [] l a = refl
  all_above t x (s ∷ m) l a = let b : nat_lt t s.0 ≡ true = (let c = a.0 in grind (arith, nat_tests)) in rw (b, all_above t x m l a.1) refl

  pub keep_keys-above : (t : ℕ) (m : List (ℕ × X)) → Ordered m → starts_by t m ≡ false → keep_keys (λ k. nat_lt t k) m ≡ m
  unfolding keep_keys IsStrictlySortedBy
  keep_keys-above t [] h b = refl
  keep_keys-above t (s ∷ m) h b = let l : t < s.0 = grind (arith, nat_tests) in let c : nat_lt t s.0 ≡ true = grind (arith, nat_tests) in rw (c, all_above t s.0 m l h.0) refl

  pub has_place-put : (q k : ℕ) (o : Option X) (m : List (ℕ × Option X)) → has_place q (put k o m) ≡ cond (eqb q k) true (has_place q m)
  unfolding has_place
  has_place-put q k o m = ap is_some (find-put q k o m) ∙ some_cond (eqb q k) o (find q m)

  -- ---- what std's tree answers, over the places ----

  no_place : (k : ℕ) (m : List (ℕ × Option X)) → has_place k m ≡ true → find k m ≡ None → ⊥
  unfolding has_place
  no_place k m h n = let s = ap is_some n in cc

  none_there_by : (o : Option (Option X)) → is_some o ≡ false → o ≡ None
  none_there_by None h = refl
  none_there_by (Some v) h = absurd cc

  pub not_there : (k : ℕ) (m : List (ℕ × Option X)) → is_some (find k m) ≡ false → find k m ≡ None
  not_there k m h = none_there_by (find k m) h

  -- only a key that is not there may find no memory
  pub put_at_place : {T E : Type 0} (r : Result T E) (k : ℕ) (o : Option X) (m n s : List (ℕ × Option X)) → OnOk r (n ≡ insert_entry nat_cmp m k o) → OnErr r (find k m ≡ None) → m ≡ s → has_place k s ≡ true → n ≡ put k o s
  unfolding put
  put_at_place r k o m n s ok err e h = by_result r (n ≡ put k o m) (find k m ≡ None) ok err (no_place k m (subst (λ x. has_place k x ≡ true) (sym e) h)) ∙ ap (put k o) e

  pub find-filled_by : (q : ℕ) (m s : List (ℕ × Option X)) (o : Option (Option X)) → Ordered m → m ≡ s → find q m ≡ o → flat o ≡ find q (filled s)
  find-filled_by q m s o h e f = sym (ap (λ x. find q (filled x)) (sym e) ∙ (find-filled q m h ∙ ap flat f))

  pub filled-put_by : (k : ℕ) (v : X) (m n s : List (ℕ × Option X)) → Ordered m → m ≡ s → n ≡ put k (Some v) s → filled n ≡ put k v (filled s)
  filled-put_by k v m n s h e p = ap filled p ∙ filled-put k v s (subst Ordered e h)

  there : (q k : ℕ) (s : List (ℕ × Option X)) (b : Bool) → eqb q k ≡ b → has_place k s ≡ true → cond b true (has_place q s) ≡ has_place q s
  there q k s true e h = sym (ap (λ x. has_place x s) (eqb-true q k e) ∙ h)
  there q k s false e h = refl

  pub has_place-put_there : (k : ℕ) (o : Option X) (n s : List (ℕ × Option X)) → has_place k s ≡ true → n ≡ put k o s → (q : ℕ) → has_place q n ≡ has_place q s
  has_place-put_there k o n s h p q = ap (has_place q) p ∙ (has_place-put q k o s ∙ there q k s (eqb q k) refl h)

  pub filled-place_by : (k : ℕ) (m n s : List (ℕ × Option X)) → Ordered m → m ≡ s → n ≡ insert_entry nat_cmp m k None → find k m ≡ None → filled n ≡ filled s
  unfolding put
  filled-place_by k m n s h e p f = ap filled p ∙ (filled-place k m h f ∙ ap filled e)

  pub has_place-place : (k : ℕ) (m n s : List (ℕ × Option X)) → m ≡ s → n ≡ insert_entry nat_cmp m k None → (q : ℕ) → has_place q n ≡ cond (eqb q k) true (has_place q s)
  unfolding put
  has_place-place k m n s e p q = ap (has_place q) p ∙ (has_place-put q k None m ∙ ap (λ x. cond (eqb q k) true (has_place q x)) e)

  pub place_made : (k : ℕ) (n s : List (ℕ × Option X)) → ((q : ℕ) → has_place q n ≡ cond (eqb q k) true (has_place q s)) → has_place k n ≡ true
  place_made k n s h = h k ∙ ap (λ b. cond b true (has_place k s)) (eq-eqb k k refl)

  pub places_stay : (k : ℕ) (n s : List (ℕ × Option X)) → ((q : ℕ) → has_place q n ≡ cond (eqb q k) true (has_place q s)) → (q : ℕ) → has_place q s ≡ true → has_place q n ≡ true
  places_stay k n s h q t = h q ∙ still (eqb q k) (has_place q s) t

  pub none_besides : (k : ℕ) (n s : List (ℕ × Option X)) → ((q : ℕ) → has_place q n ≡ cond (eqb q k) true (has_place q s)) → (q : ℕ) → has_place q n ≡ true → (q ≡ k) ⊎ (has_place q s ≡ true)
  none_besides k n s h q t = one_of q k (eqb q k) (has_place q s) refl (sym (h q) ∙ t)

  taken : (b : Bool) (o : Option (Option X)) → flat (cond b None o) ≡ cond b None (flat o)
  taken true o = refl
  taken false o = refl

  -- what is taken out leaves the rest
  pub filled-take_out : (k : ℕ) (m : List (ℕ × Option X)) → Ordered m → filled (take_out k m) ≡ take_out k (filled m)
  filled-take_out k m h = same_table _ _ (Ordered-filled _ (Ordered-take_out k m h)) (Ordered-take_out k (filled m) (Ordered-filled m h))
      (λ q. find-filled q _ (Ordered-take_out k m h) ∙ (ap flat (find-take_out q k m) ∙ (taken (eqb q k) (find q m) ∙ (ap (cond (eqb q k) None) (sym (find-filled q m h)) ∙ sym (find-take_out q k (filled m))))))

  pub filled-take_out_by : (k : ℕ) (m n s : List (ℕ × Option X)) → Ordered m → Ordered n → m ≡ s → n ≡ map.remove_entry (is_at (nat_cmp k)) m → filled n ≡ take_out k (filled s)
  filled-take_out_by k m n s h i v e = ap filled (take_out_is k m n h i e) ∙ (filled-take_out k m h ∙ ap (λ t. take_out k (filled t)) v)

  -- what stands under its number does so after an entry comes under its own
  commuted : (p : ℕ → X → Bool) (q k : ℕ) (v : X) (m : List (ℕ × X)) (b : Bool) → eqb q k ≡ b → p k v ≡ true → kept p q (cond b (Some v) (find q m)) ≡ cond b (Some v) (kept p q (find q m))
  commuted p q k v m true e h = ap (λ c. cond c (Some v) None) (subst (λ x. p x v ≡ true) (sym (eqb-true q k e)) h)
  commuted p q k v m false e h = refl

  -- what passes may come first or last
  pub keep-put : (p : ℕ → X → Bool) (k : ℕ) (v : X) (m : List (ℕ × X)) → Ordered m → p k v ≡ true → keep p (put k v m) ≡ put k v (keep p m)
  keep-put p k v m h t = same_table _ _ (Ordered-keep p _ (Ordered-put k v m h)) (Ordered-put k v _ (Ordered-keep p m h))
      (λ q. find-keep q p (put k v m) ∙ (ap (kept p q) (find-put q k v m) ∙ (commuted p q k v m (eqb q k) refl t ∙ (ap (cond (eqb q k) (Some v)) (sym (find-keep q p m)) ∙ sym (find-put q k v (keep p m))))))

pub under_after : (n s : List (ℕ × Option Entry)) → filled n ≡ filled s → AreUnderTheirNumbers s → AreUnderTheirNumbers n
under_after n s e u = λ k f h. u k f (ap (find k) (sym e) ∙ h)

pub under_after_put : (e : Entry) (n s : List (ℕ × Option Entry)) → filled n ≡ put e.number e (filled s) → AreUnderTheirNumbers s → AreUnderTheirNumbers n
under_after_put e n s p u = λ k f h. let i = u k f in let g = ap (find k) (sym p) ∙ h in grind (arith, find-put)

pub under_after_keep : (t : ℕ → Entry → Bool) (n s : List (ℕ × Option Entry)) → filled n ≡ keep t (filled s) → AreUnderTheirNumbers s → AreUnderTheirNumbers n
under_after_keep t n s p u = λ k f h. let i = u k f in let g = ap (find k) (sym p) ∙ h in grind (arith, find-keep)

pub none_under : AreUnderTheirNumbers []
unfolding filled find
none_under = λ k e h. absurd cc

pub under_after_keep_keys : (p : ℕ → Bool) (n s : List (ℕ × Option Entry)) → filled n ≡ keep_keys p (filled s) → AreUnderTheirNumbers s → AreUnderTheirNumbers n
under_after_keep_keys p n s e u = λ k f h. let i = u k f in let g = ap (find k) (sym e) ∙ h in grind (arith, find-keep_keys)
