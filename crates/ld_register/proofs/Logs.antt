-- One log: what is shown of it where room is made, after an activation and after a close.
use Rattle.std.proofs.Common.{Result, Ok, Err, OnOk, OnErr, ◌≡◌, ◌≤◌, ◌<◌, ◌+◌, ◌-◌, ◌^◌, ◌⊎◌, inl, inr, ℕ, min, Bool, true, false, cond, List, [], Option, Some, None, option_map, is_some, IsSome, IfSome, refl, ap, sym, ◌∙◌, subst, arith, eqb, nat_cmp}
use Rattle.std.specs.BTreeMap.{insert_entry}
use Rattle.std.proofs.lemmas.Bool.{cases_eq}
use Rattle.std.proofs.lemmas.Bool.Decides.{nat_tests}
use Rattle.ld_table.specs.Table.{find, put, take_out, keep_keys, map_values, Ordered}
use Rattle.ld_table.proofs.Laws.{find-put_same, find-put_other, find-take_out, find-keep_keys, find-map_values, map_values-put, put_cases, find-empty, table_rules}
use Rattle.ld_table.proofs.Order.{Ordered-put, Ordered-take_out, Ordered-keep, keep_is, same_table}
use Rattle.ld_op.proofs.There.{Ordered-map_values}
use Rattle.ld_ids.specs.Id.{IsNode}
use Rattle.ld_ids.specs.declared.set.Spec.{Spec}
use Rattle.ld_msg.specs.declared.msg.Summary.{Summary}
use Rattle.ld_msg.specs.Bounds.{IsSummary}
use Rattle.ld_msg.specs.Register.{Epochs, no_epochs, next_epoch, closed_epochs, swapped_epochs, swap_count, closed_upto}
use Rattle.ld_register.specs.Bounds.{IsSpecFor}
use Rattle.ld_register.specs.Changes.{unfixed_epoch}
use Rattle.ld_register.specs.declared.fixed.Fixed.{Fixed}
use Rattle.ld_register.specs.Kept.{is_up_to, shown_log, fixed_in, swapped_in, swapped_up_to, swaps_up_to, IsLogSound, IsLogOf}
use Rattle.ld_register.proofs.Swapping.{fixed-swapped, shown-swapped, shown_count, of-swapped}

module _ {X : Type 0} where
  pub Ordered-keep_keys : (p : ℕ → Bool) (m : List (ℕ × X)) → Ordered m → Ordered (keep_keys p m)
  unfolding keep_keys
  Ordered-keep_keys p m h = subst (λ (n : List (ℕ × X)). Ordered n) (sym (keep_is (λ k v. p k) m h)) (Ordered-keep (λ k v. p k) m h)

  -- what is put under a key that isn't shown
  pub hidden_put : (p : ℕ → Bool) (k : ℕ) (v : X) (m : List (ℕ × X)) → Ordered m → p k ≡ false → keep_keys p (put k v m) ≡ keep_keys p m
  hidden_put p k v m o h = same_table _ _ (Ordered-keep_keys p (put k v m) (Ordered-put k v m o)) (Ordered-keep_keys p m o) (λ q.
      find-keep_keys q p (put k v m) ∙ (elim (cases_eq q k) as (λ s. cond (p q) (find q (put k v m)) None ≡ cond (p q) (find q m) None) [
        | inl e ↦ let f : p q ≡ false = ap p e ∙ h in ap (λ b. cond b (find q (put k v m)) None) f ∙ sym (ap (λ b. cond b (find q m) None) f)
        | inr n ↦ ap (λ o. cond (p q) o None) (find-put_other q k v m n)
      ] ∙ sym (find-keep_keys q p m)))

  -- the next key is shown
  pub shown_put : (n : ℕ) (v : X) (m : List (ℕ × X)) → Ordered m → keep_keys (is_up_to (n + 1)) (put (n + 1) v m) ≡ put (n + 1) v (keep_keys (is_up_to n) m)
  shown_put n v m o = same_table _ _ (Ordered-keep_keys _ _ (Ordered-put (n + 1) v m o)) (Ordered-put (n + 1) v _ (Ordered-keep_keys _ m o)) (λ q. grind (arith, table_rules, nat_tests))

  -- what is taken out under the next key was not shown
  pub shown_take_out : (n : ℕ) (m : List (ℕ × X)) → Ordered m → keep_keys (is_up_to (n + 1)) (take_out (n + 1) m) ≡ keep_keys (is_up_to n) m
  shown_take_out n m o = same_table _ _ (Ordered-keep_keys _ _ (Ordered-take_out (n + 1) m o)) (Ordered-keep_keys _ m o) (λ q. grind (arith, table_rules, nat_tests))

by_result : {T E : Type 0} (r : Result T E) (A B : Type 0) → OnOk r A → OnErr r B → (B → ⊥) → A
by_result (Ok v) A B a b never = a
by_result (Err e) A B a b never = absurd (never b)

module _ {X : Type 0} where
  pub not_found : (o : Option X) (y : X) → o ≡ None → o ≡ Some y → ⊥
  not_found o y e f = absurd cc

  pub if_found : (o : Option X) (P : X → Type 0) → ((y : X) → o ≡ Some y → P y) → IfSome o P
  if_found None P f = tt
  if_found (Some y) P f = f y refl

  there_is : (o : Option X) → is_some o ≡ true → o ≡ None → ⊥
  there_is None h e = absurd cc
  there_is (Some v) h e = absurd cc

  -- a write at a key that is there finds its memory
  pub put_there : {T E : Type 0} (r : Result T E) (k : ℕ) (v : X) (m n : List (ℕ × X)) → OnOk r (n ≡ insert_entry nat_cmp m k v) → OnErr r (find k m ≡ None) → is_some (find k m) ≡ true → n ≡ put k v m
  unfolding put
  put_there r k v m n ok err h = by_result r (n ≡ put k v m) (find k m ≡ None) ok err (there_is (find k m) h)

  pub put_is_there : (k : ℕ) (v : X) (m n : List (ℕ × X)) → n ≡ put k v m → is_some (find k n) ≡ true
  put_is_there k v m n e = ap (λ l. is_some (find k l)) e ∙ ap is_some (find-put_same k k v m refl)

some_is : {X : Type 0} (y z : X) → Some y ≡ Some z → y ≡ z
some_is y z e = cc

-- a summary more, above the last closed epoch or with it closed
pub sound_put : (v : Epochs) (e lce : ℕ) (y : Summary) (n : List (ℕ × Summary)) → IsLogSound v → IsSummary e y → n ≡ put e y v.summaries → (lce ≡ v.lce) ⊎ ((lce ≡ e) × (e ≡ v.lce + 1)) → IsLogSound (record v { lce = lce; summaries = n })
sound_put v e lce y n s i p which = record {
  epoch = s.epoch;
  lce = let a = s.lce in let b = i.ballot in let c = i.ballot_most in omega arith;
  are = λ q z f. elim (put_cases q e y v.summaries) [
    | inl h ↦ let g : y ≡ z = some_is y z (sym h.1 ∙ (ap (find q) (sym p) ∙ f)) in subst (λ k. IsSummary k z) (sym h.0) (subst (IsSummary e) g i)
    | inr h ↦ s.are q z (sym h.1 ∙ (ap (find q) (sym p) ∙ f))
  ];
  there = λ q one most. subst (λ l. IsSome (find q l)) (sym p) (elim (put_cases q e y v.summaries) [
    | inl h ↦ subst IsSome (sym h.1) refl
    | inr h ↦ subst IsSome (sym h.1) (s.there q one (let k = h.0 in elim which [ inl w ↦ omega arith | inr w ↦ elim (cases_eq q e) [ inl g ↦ absurd (k g) | inr g ↦ omega arith ] ]))
  ]);
}

pub sound_new : IsLogSound no_epochs
sound_new = record { epoch = omega arith; lce = omega arith; are = λ e y f. absurd (not_found (find e []) y (find-empty {X = Summary} e) f); there = λ e one most. absurd (omega arith) }

-- another epoch, what else is fixed, and how many swaps there were
pub sound_epoch : (v : Epochs) (ep k : ℕ) (p w : List (ℕ × Spec)) → IsLogSound v → ep ≤ 2 ^ 32 - 2 → IsLogSound (record v { epoch = ep; specs = p; swapped = w; swaps = k })
sound_epoch v ep k p w s b = record { epoch = b; lce = s.lce; are = s.are; there = s.there }

-- ---- what is fixed: first, and as swaps left it ----

-- a log by what is kept of it
abbrev pub log_with : ℕ → ℕ → ℕ → List (ℕ × Fixed) → List (ℕ × Summary) → Epochs
log_with ep lc k t y = record { epoch = ep; lce = lc; specs = fixed_in t; swapped = swapped_in t; swaps = k; summaries = y }

-- what no swap has changed
abbrev pub fresh : Spec → Fixed
fresh s = record { fixed = s; swapped = s }

fixed_put : (e : ℕ) (s : Spec) (t u : List (ℕ × Fixed)) → u ≡ put e (fresh s) t → fixed_in u ≡ put e s (fixed_in t)
fixed_put e s t u h = ap fixed_in h ∙ map_values-put (λ x. x.fixed) e (fresh s) t

swapped_put : (e : ℕ) (s : Spec) (t u : List (ℕ × Fixed)) → u ≡ put e (fresh s) t → swapped_in u ≡ put e s (swapped_in t)
swapped_put e s t u h = ap swapped_in h ∙ map_values-put (λ x. x.swapped) e (fresh s) t

pub fixed_there : (e : ℕ) (t : List (ℕ × Fixed)) → is_some (find e (fixed_in t)) ≡ is_some (find e t)
fixed_there e t = ap is_some (find-map_values (λ x. x.fixed) e t) ∙ there (find e t)
  where
    there : (o : Option Fixed) → is_some (option_map (λ x. x.fixed) o) ≡ is_some o
    there None = refl
    there (Some x) = refl

module _ {X Y : Type 0} (f : X → Y) where
  turn : (b : Bool) (o : Option X) → option_map f (cond b None o) ≡ cond b None (option_map f o)
  turn true o = refl
  turn false o = refl

  map_values-take_out : (e : ℕ) (m : List (ℕ × X)) → Ordered m → map_values f (take_out e m) ≡ take_out e (map_values f m)
  map_values-take_out e m o = same_table _ _ (Ordered-map_values f _ (Ordered-take_out e m o)) (Ordered-take_out e _ (Ordered-map_values f m o))
      (λ q. find-map_values f q (take_out e m) ∙ (ap (option_map f) (find-take_out q e m) ∙ (turn (eqb q e) (find q m) ∙ sym (find-take_out q e (map_values f m) ∙ ap (cond (eqb q e) None) (find-map_values f q m)))))

-- what is fixed is the log's
pub of_put : (l : ℕ) (ep lc k e f g : ℕ) (s : Spec) (t u : List (ℕ × Fixed)) (y z : List (ℕ × Summary)) → IsSpecFor l s → f ≤ 2 ^ 32 - 2 → u ≡ put e (fresh s) t → IsLogOf l (log_with ep lc k t y) → IsLogOf l (log_with f g k u z)
of_put l ep lc k e f g s t u y z i b p h = record {
  epoch = b;
  specs = λ q w r. elim (put_cases q e s (swapped_in t)) [
    | inl c ↦ (let g : s ≡ w = some_is s w (sym c.1 ∙ (ap (find q) (sym (swapped_put e s t u p)) ∙ r)) in subst (IsSpecFor l) g i)
    | inr c ↦ h.specs q w (sym c.1 ∙ (ap (find q) (sym (swapped_put e s t u p)) ∙ r))
  ];
}

left_found : (b : Bool) (o : Option Spec) (s : Spec) → cond b None o ≡ Some s → o ≡ Some s
left_found true o s h = absurd cc
left_found false o s h = h

pub of_take_out : (l : ℕ) (ep lc k e f : ℕ) (t u : List (ℕ × Fixed)) (y : List (ℕ × Summary)) → f ≤ 2 ^ 32 - 2 → Ordered t → u ≡ take_out e t → IsLogOf l (log_with ep lc k t y) → IsLogOf l (log_with f lc k u y)
of_take_out l ep lc k e f t u y b o p h = record {
  epoch = b;
  specs = λ q z r. h.specs q z (left_found _ (find q (swapped_in t)) z (sym (find-take_out q e (swapped_in t)) ∙ (ap (find q) (sym (ap swapped_in p ∙ map_values-take_out (λ x. x.swapped) e t o)) ∙ r)));
}

pub of_same : (l : ℕ) (v : Epochs) (lc : ℕ) (y : List (ℕ × Summary)) → IsLogOf l v → IsLogOf l (record v { lce = lc; summaries = y })
of_same l v lc y h = record { epoch = h.epoch; specs = h.specs }

pub of_swap : (l : ℕ) (ep lc k last old new : ℕ) (t u : List (ℕ × Fixed)) (y : List (ℕ × Summary)) → IsNode new → u ≡ swapped_up_to last old new t → IsLogOf l (log_with ep lc k t y) → IsLogOf l (log_with ep lc (k + 1) u y)
of_swap l ep lc k last old new t u y node p h = record { epoch = h.epoch; specs = λ q z r. of-swapped l last old new t node h.specs q z (ap (λ n. find q (swapped_in n)) (sym p) ∙ r) }

abbrev shown_with : ℕ → ℕ → ℕ → List (ℕ × Spec) → List (ℕ × Spec) → List (ℕ × Summary) → Epochs
shown_with ep lc k p w y = record { epoch = ep; lce = lc; specs = p; swapped = w; swaps = k; summaries = keep_keys (is_up_to lc) y }

-- two tables of what is fixed
both_shown : (ep lc k : ℕ) (p q v w : List (ℕ × Spec)) (y : List (ℕ × Summary)) → p ≡ q → v ≡ w → shown_with ep lc k p v y ≡ shown_with ep lc k q w y
both_shown ep lc k p q v w y e f = ap (λ t. shown_with ep lc k t v y) e ∙ ap (λ t. shown_with ep lc k q t y) f

put_hidden : (ep e : ℕ) (s : Spec) (m n : List (ℕ × Spec)) → Ordered m → n ≡ put e s m → ep < e → keep_keys (is_up_to ep) n ≡ keep_keys (is_up_to ep) m
put_hidden ep e s m n o p h = ap (keep_keys (is_up_to ep)) p ∙ hidden_put (is_up_to ep) e s m o (grind (arith, nat_tests))

put_next : (ep e : ℕ) (s : Spec) (m n : List (ℕ × Spec)) → Ordered m → n ≡ put e s m → e ≡ ep + 1 → keep_keys (is_up_to e) n ≡ put (ep + 1) s (keep_keys (is_up_to ep) m)
put_next ep e s m n o p k = ap (keep_keys (is_up_to e)) p ∙ (ap (λ f. keep_keys (is_up_to f) (put f s m)) k ∙ shown_put ep s m o)

out_next : (ep e : ℕ) (m n : List (ℕ × Spec)) → Ordered m → n ≡ take_out e m → e ≡ ep + 1 → keep_keys (is_up_to e) n ≡ keep_keys (is_up_to ep) m
out_next ep e m n o p k = ap (keep_keys (is_up_to e)) p ∙ (ap (λ f. keep_keys (is_up_to f) (take_out f m)) k ∙ shown_take_out ep m o)

-- what is shown of a log in which room was made for what is fixed
pub spec_room_shown : (ep lc k e : ℕ) (s : Spec) (m n : List (ℕ × Fixed)) (y : List (ℕ × Summary)) (v : Epochs) → log_with ep lc k m y ≡ v → Ordered m → n ≡ put e (fresh s) m → v.epoch < e
    → shown_log (log_with ep lc k n y) ≡ shown_log v
spec_room_shown ep lc k e s m n y v w o p h =
    let above : ep < e = (let k = ap (λ u. u.epoch) w in omega arith) in
    both_shown ep lc k _ _ _ _ y (put_hidden ep e s (fixed_in m) (fixed_in n) (Ordered-map_values (λ x. x.fixed) m o) (fixed_put e s m n p) above)
    (put_hidden ep e s (swapped_in m) (swapped_in n) (Ordered-map_values (λ x. x.swapped) m o) (swapped_put e s m n p) above) ∙ ap shown_log w

pub activate_shown : (ep lc k e : ℕ) (s : Spec) (m n : List (ℕ × Fixed)) (y : List (ℕ × Summary)) (v : Epochs) → log_with ep lc k m y ≡ v → Ordered m → n ≡ put e (fresh s) m → e ≡ v.epoch + 1
    → shown_log (log_with e lc k n y) ≡ next_epoch (shown_log v) s
activate_shown ep lc k e s m n y v w o p h = let next : e ≡ ep + 1 = h ∙ ap (λ u. u.epoch + 1) (sym w) in
    both_shown e lc k _ _ _ _ y (put_next ep e s (fixed_in m) (fixed_in n) (Ordered-map_values (λ x. x.fixed) m o) (fixed_put e s m n p) next)
    (put_next ep e s (swapped_in m) (swapped_in n) (Ordered-map_values (λ x. x.swapped) m o) (swapped_put e s m n p) next)
    ∙ (ap (λ f. shown_with f lc k (put (ep + 1) s (keep_keys (is_up_to ep) (fixed_in m))) (put (ep + 1) s (keep_keys (is_up_to ep) (swapped_in m))) y) next ∙ ap (λ u. next_epoch (shown_log u) s) w)

pub unfixed_shown : (ep lc k e : ℕ) (m n : List (ℕ × Fixed)) (y : List (ℕ × Summary)) (v : Epochs) → log_with ep lc k m y ≡ v → Ordered m → n ≡ take_out e m → e ≡ v.epoch + 1
    → shown_log (log_with e lc k n y) ≡ unfixed_epoch (shown_log v)
unfixed_shown ep lc k e m n y v w o p h = let next : e ≡ ep + 1 = h ∙ ap (λ u. u.epoch + 1) (sym w) in
    both_shown e lc k _ _ _ _ y (out_next ep e (fixed_in m) (fixed_in n) (Ordered-map_values (λ x. x.fixed) m o) (ap fixed_in p ∙ map_values-take_out (λ x. x.fixed) e m o) next)
    (out_next ep e (swapped_in m) (swapped_in n) (Ordered-map_values (λ x. x.swapped) m o) (ap swapped_in p ∙ map_values-take_out (λ x. x.swapped) e m o) next)
    ∙ (ap (λ f. shown_with f lc k (keep_keys (is_up_to ep) (fixed_in m)) (keep_keys (is_up_to ep) (swapped_in m)) y) next ∙ ap (λ u. unfixed_epoch (shown_log u)) w)

-- what is shown of a log in which room was made for a summary
pub room_shown : (ep lc k e : ℕ) (y : Summary) (t : List (ℕ × Fixed)) (m n : List (ℕ × Summary)) (v : Epochs) → log_with ep lc k t m ≡ v → Ordered m → n ≡ put e y m → v.lce < e
    → shown_log (log_with ep lc k t n) ≡ shown_log v
room_shown ep lc k e y t m n v w o is h = ap (λ s. record { epoch = ep; lce = lc; specs = keep_keys (is_up_to ep) (fixed_in t); swapped = keep_keys (is_up_to ep) (swapped_in t); swaps = k; summaries = s })
    (ap (keep_keys (is_up_to lc)) is ∙ hidden_put (is_up_to lc) e y m o (let k : lc ≡ v.lce = ap (λ u. u.lce) w in grind (arith, nat_tests))) ∙ ap shown_log w

pub close_shown : (ep lc k e : ℕ) (y : Summary) (t : List (ℕ × Fixed)) (m n : List (ℕ × Summary)) (v : Epochs) → log_with ep lc k t m ≡ v → Ordered m → n ≡ put e y m → e ≡ v.lce + 1
    → shown_log (log_with ep e k t n) ≡ closed_epochs (shown_log v) e y
close_shown ep lc k e y t m n v w o is h = let next : e ≡ lc + 1 = h ∙ ap (λ u. u.lce + 1) (sym w) in
    ap (λ s. record { epoch = ep; lce = e; specs = keep_keys (is_up_to ep) (fixed_in t); swapped = keep_keys (is_up_to ep) (swapped_in t); swaps = k; summaries = s })
    (ap (keep_keys (is_up_to e)) is ∙ subst (λ f. keep_keys (is_up_to f) (put f y m) ≡ put f y (keep_keys (is_up_to lc) m)) (sym next) (shown_put lc y m o))
    ∙ ap (λ u. closed_epochs (shown_log u) e y) w

-- what is shown of a log after a swap
pub swap_shown : (ep lc k last upto old new : ℕ) (m n : List (ℕ × Fixed)) (y : List (ℕ × Summary)) (v : Epochs) → log_with ep lc k m y ≡ v → n ≡ swapped_up_to last old new m → last ≡ min (min upto v.lce) v.epoch
    → shown_log (log_with ep lc (k + 1) n y) ≡ swapped_epochs (shown_log v) upto old new
swap_shown ep lc k last upto old new m n y v w p is =
    let here : last ≡ min (min upto lc) ep = is ∙ ap (λ u. min (min upto u.lce) u.epoch) (sym w) in
    both_shown ep lc (k + 1) _ _ _ _ y (ap (keep_keys (is_up_to ep)) (ap fixed_in p ∙ fixed-swapped last old new m))
    (ap (λ t. keep_keys (is_up_to ep) (swapped_in t)) (p ∙ ap (λ i. swapped_up_to i old new m) here) ∙ shown-swapped (min upto lc) ep old new m) ∙ ap (λ u. swapped_epochs (shown_log u) upto old new) w

pub count_shown : (ep lc k last upto old new : ℕ) (m : List (ℕ × Fixed)) (y : List (ℕ × Summary)) (v : Epochs) → log_with ep lc k m y ≡ v → last ≡ min (min upto v.lce) v.epoch
    → swaps_up_to last old new m ≡ swap_count (closed_upto (shown_log v) upto) old new (shown_log v).swapped
count_shown ep lc k last upto old new m y v w is = ap (λ i. swaps_up_to i old new m) (is ∙ ap (λ u. min (min upto u.lce) u.epoch) (sym w))
    ∙ (shown_count (min upto lc) ep old new m ∙ ap (λ u. swap_count (closed_upto (shown_log u) upto) old new (shown_log u).swapped) w)

-- what stands under a key is shown exactly where the key is one of those that are shown
module _ {X : Type 0} where
  pub not_shown : (e last : ℕ) (m : List (ℕ × X)) → (e ≡ 0) ⊎ (last < e) → None ≡ find e (keep_keys (is_up_to last) m)
  not_shown e last m h = sym (find-keep_keys e (is_up_to last) m ∙ ap (λ b. cond b (find e m) None) (which h))
    where
      which : (e ≡ 0) ⊎ (last < e) → is_up_to last e ≡ false
      which (inl z) = grind (arith, nat_tests)
      which (inr l) = grind (arith, nat_tests)

  pub is_shown : (e last : ℕ) (m : List (ℕ × X)) → 1 ≤ e → e ≤ last → find e m ≡ find e (keep_keys (is_up_to last) m)
  is_shown e last m one most = let h : is_up_to last e ≡ true = grind (arith, nat_tests) in sym (find-keep_keys e (is_up_to last) m ∙ ap (λ b. cond b (find e m) None) h)
