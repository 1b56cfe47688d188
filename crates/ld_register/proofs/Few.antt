-- At most 64 logs are held: a log is added only where fewer than 64 others are held.
use Rattle.std.proofs.Common.{◌≡◌, ◌≤◌, ◌<◌, ◌&&◌, ◌==◌, inl, inr, ℕ, suc, Bool, true, false, not, List, [], ◌∷◌, Some, Ordering, Less, Equal, Greater, refl, ap, sym, ◌∙◌, subst, arith, nat_cmp, length, if◌then◌else◌}
use Rattle.std.specs.Map as map
use Rattle.std.specs.BTreeMap.{is_at}
use Rattle.std.proofs.lemmas.Map.{length-set_value}
use Rattle.std.specs.Ordering.{match_ordering}
use Rattle.std.specs.List.{AllByRecursion}
use Rattle.std.specs.List.Sorted.{IsStrictlySortedBy}
use Rattle.std.proofs.lemmas.Bool.{cases_Bool, eqb-true, eq-eqb, leb-false}
use Rattle.std.proofs.lemmas.Bool.Decides.{nat_tests}
use Rattle.ld_table.specs.Table.{find, put, map_values, Ordered}
use Rattle.ld_table.specs.Words.{how_many}
use Rattle.ld_table.proofs.Order.{Ordered-put}
use Rattle.ld_op.proofs.There.{Ordered-map_values}
use Rattle.ld_msg.specs.Register.{Epochs, epochs_in, is_crowded, log_limit}
use Rattle.ld_register.specs.Kept.{Kept, register_of, shown_log, shown_logs, is_held, AreLogs, AreFewLogs}
use Rattle.ld_register.proofs.Tables.{Ordered-passing, set_value_put}

-- how many but this one
abbrev rest : {X : Type 0} → ℕ → List (ℕ × X) → ℕ
rest l m = how_many (λ k. not (k.0 == l)) m

counted : (b : Bool) (n : ℕ) → b ≡ true → (if b then suc n else n) ≡ suc n
counted b n h = rw h refl

uncounted : (b : Bool) (n : ℕ) → b ≡ false → (if b then suc n else n) ≡ n
uncounted b n h = rw h refl

other_key : (l k : ℕ) → nat_cmp l k ≡ Less → not (k == l) ≡ true
other_key l k h = grind (arith, nat_tests)

same_key : (l k : ℕ) → nat_cmp l k ≡ Equal → not (k == l) ≡ false
same_key l k h = grind (arith, nat_tests)

this_key : (l : ℕ) → not (l == l) ≡ false
this_key l = ap not (eq-eqb l l refl)

module _ {X : Type 0} where
  all_others : (l : ℕ) (m : List (ℕ × X)) → AllByRecursion (λ y. nat_cmp l y ≡ Less) (map.keys_of m) → rest l m ≡ length m
  all_others l [] h = refl
  all_others l (e ∷ m) h = counted (not (e.0 == l)) (rest l m) (other_key l e.0 h.0) ∙ ap suc (all_others l m h.1)

  one_more : (l : ℕ) (m : List (ℕ × X)) → Ordered m → length m ≤ suc (rest l m)
  unfolding IsStrictlySortedBy
  one_more l [] o = omega arith
  one_more l (e ∷ m) o = elim (cases_Bool (e.0 == l)) [
    | inl t ↦ (let a = uncounted (not (e.0 == l)) (rest l m) (ap not t) in let b = all_others l m (subst (λ k. AllByRecursion (λ y. nat_cmp k y ≡ Less) (map.keys_of m)) (eqb-true e.0 l t) o.0) in omega arith)
    | inr t ↦ (let a = counted (not (e.0 == l)) (rest l m) (ap not t) in let b = one_more l m o.1 in omega arith)
  ]

  put_step : (o : Ordering) (l : ℕ) (v : X) (e : ℕ × X) (m : List (ℕ × X)) → nat_cmp l e.0 ≡ o → rest l (put l v m) ≡ rest l m → rest l (match_ordering o ((l, v) ∷ e ∷ m) ((e.0, v) ∷ m) (e ∷ put l v m)) ≡ rest l (e ∷ m)
  put_step Less l v e m q ih = uncounted (not (l == l)) (rest l (e ∷ m)) (this_key l)
  put_step Equal l v e m q ih = refl
  put_step Greater l v e m q ih = ap (λ n. if not (e.0 == l) then suc n else n) ih

  put_rest : (l : ℕ) (v : X) (m : List (ℕ × X)) → rest l (put l v m) ≡ rest l m
  unfolding put
  put_rest l v [] = uncounted (not (l == l)) 0 (this_key l)
  put_rest l v (e ∷ m) = put_step (nat_cmp l e.0) l v e m refl (put_rest l v m)

  put_few : (l : ℕ) (v : X) (m n : List (ℕ × X)) → n ≡ put l v m → Ordered m → rest l m < 64 → length n ≤ 64
  put_few l v m n e o h = let a = one_more l (put l v m) (Ordered-put l v m o) in let b = put_rest l v m in let c = ap length e in omega arith

Ordered-shown : (m : List (ℕ × Epochs)) → Ordered m → Ordered (shown_logs m)
Ordered-shown m o = Ordered-passing is_held (map_values shown_log m) (Ordered-map_values shown_log m o)

-- a log is written
pub shown_few : (l : ℕ) (v : Epochs) (m n : List (ℕ × Epochs)) → shown_logs n ≡ put l v (shown_logs m) → Ordered m → how_many (λ k. not (k.0 == l)) (shown_logs m) < 64 → length (shown_logs n) ≤ 64
shown_few l v m n e o h = put_few l v (shown_logs m) (shown_logs n) e (Ordered-shown m o) h

-- a log that is held is written
pub shown_as_many : (l : ℕ) (v w : Epochs) (m n : List (ℕ × Epochs)) → Ordered m → find l (shown_logs m) ≡ Some v → shown_logs n ≡ put l w (shown_logs m) → length (shown_logs n) ≡ length (shown_logs m)
shown_as_many l v w m n o f e = ap length (e ∙ sym (set_value_put l w v (shown_logs m) (Ordered-shown m o) f)) ∙ length-set_value (is_at (nat_cmp l)) (shown_logs m) w

-- room is made
pub few_same : (m n : List (ℕ × Epochs)) → shown_logs n ≡ shown_logs m → (AreLogs m → AreLogs n) → AreFewLogs m → AreFewLogs n
few_same m n e l h = record { logs = l h.logs; few = let a = ap length e in let b = h.few in omega arith }

-- a log whose change is the next one
off : (t b : Bool) → (not t && b) ≡ true → t ≡ false
off true b h = absurd cc
off false b h = refl

pub few_others : (k : Kept) (m : List (ℕ × Epochs)) (g : List (ℕ × ℕ)) (l : ℕ) (b : Bool) → record { logs = m; generations = g } ≡ k → (not (is_crowded (register_of k 0) l) && b) ≡ true → how_many (λ i. not (i.0 == l)) (shown_logs m) < 64
few_others k m g l b v h = subst (λ n. how_many (λ j. not (j.0 == l)) (shown_logs n) < 64) (sym (ap (λ (n : Kept). n.logs) v)) (leb-false log_limit _ (off (is_crowded (register_of k 0) l) b h))

active_by : (b : Bool) (e : ℕ × ℕ) (es : List (ℕ × ℕ)) (n : ℕ) → length es ≤ n → length (if b then es else e ∷ es) ≤ suc n
active_by true e es n h = omega arith
active_by false e es n h = omega arith

pub active_few : (m : List (ℕ × Epochs)) → length (epochs_in m) ≤ length m
active_few [] = omega arith
active_few (e ∷ m) = active_by (e.1.epoch == 0) (e.0, e.1.epoch) (epochs_in m) (length m) (active_few m)
