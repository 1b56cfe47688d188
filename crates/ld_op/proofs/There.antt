-- The logs that are there, after a change of one.
use Rattle.std.proofs.Common.{◌≡◌, suc, zero, ℕ, Bool, true, false, cond, List, [], ◌∷◌, ◌++◌, Option, Some, None, refl, ap, sym, ◌∙◌, subst, eqb, nat_cmp, Less, Greater, is_some, IsSome, option_map, take, Result, Ok, Err, OnOk}
use Rattle.std.specs.Option.{unwrap_or}
use Rattle.std.specs.Cmp.{nat_cmp_total, eq_by_cmp_equiv}
use Rattle.std.specs.Ordering.{eq_by_cmp, is_eq, ordering_reverse, match_ordering}
use Rattle.std.specs.BTreeMap.{is_at, insert_entry}
use Rattle.std.specs.Map as map
use Rattle.std.specs.List.{AllByRecursion}
use Rattle.std.specs.List.Sorted.{IsStrictlySortedBy}
use Rattle.std.proofs.lemmas.Map.{lookup-set_value, keys-set_value}
use Rattle.std.proofs.lemmas.Bool.{eqb-true}
use Rattle.ld_table.specs.Table.{find, put, map_values, Ordered}
use Rattle.ld_table.proofs.Laws.{find-put, find-put_same, same_key, tied, map_values-put, find-map_values}
use Rattle.ld_table.proofs.Order.{Ordered-put, same_table}
use Rattle.ld_op.specs.declared.op.Op.{Op}
use Rattle.ld_op.specs.declared.op.Op.TheVariants as ops
use Rattle.ld_op.specs.Plain.{Log, Plain, empty_log, log_of, with_log, lost_log, lost_logs, apply}
use Rattle.ld_op.specs.Places.{filled}
use Rattle.ld_op.specs.Room.{Held, if_there, there_of, log_named, log_after}
use Rattle.ld_op.proofs.Places.{flat, find-filled, filled-put, Ordered-filled}

module _ {X Y : Type 0} (f : X → Y) where
  keys-map_values : (m : List (ℕ × X)) → map.keys_of (map_values f m) ≡ map.keys_of m
  keys-map_values [] = refl
  keys-map_values (e ∷ m) = ap (λ ks. e.0 ∷ ks) (keys-map_values m)

  pub Ordered-map_values : (m : List (ℕ × X)) → Ordered m → Ordered (map_values f m)
  Ordered-map_values m h = subst (IsStrictlySortedBy nat_cmp) (sym (keys-map_values m)) h

one_key : (k x y : ℕ) → is_at (nat_cmp k) x ≡ true → is_at (nat_cmp k) y ≡ eq_by_cmp nat_cmp x y
one_key k x y h = ap (λ z. is_eq (nat_cmp z y)) (same_key k x h)

swapped : (q k : ℕ) → is_at (nat_cmp k) q ≡ eqb q k
swapped q k = (eq_by_cmp_equiv nat_cmp_total).symm k q ∙ tied q k

module _ {X : Type 0} where
  same_step : (q k : ℕ) (o : Option X) (m : List (ℕ × Option X)) (b : Bool) → eqb q k ≡ b → flat (find k m) ≡ o → flat (cond b (Some o) (find q m)) ≡ flat (find q m)
  same_step q k o m true h e = subst (λ x. o ≡ flat (find x m)) (sym (eqb-true q k h)) (sym e)
  same_step q k o m false h e = refl

  -- what was there already changes nothing
  pub filled-put_same : (k : ℕ) (o : Option X) (m : List (ℕ × Option X)) → Ordered m → flat (find k m) ≡ o → filled (put k o m) ≡ filled m
  filled-put_same k o m h e = same_table _ _ (Ordered-filled _ (Ordered-put k o m h)) (Ordered-filled m h)
      (λ q. find-filled q _ (Ordered-put k o m h) ∙ (ap flat (find-put q k o m) ∙ (same_step q k o m (eqb q k) refl e ∙ sym (find-filled q m h))))

  is_there : (o : Option X) (h : X) → o ≡ Some h → IsSome o
  is_there None h e = absurd cc
  is_there (Some v) h e = refl

  -- to write at a key that is there is to put
  pub set_value_put : (k : ℕ) (v h : X) (m : List (ℕ × X)) → Ordered m → find k m ≡ Some h → map.set_value (is_at (nat_cmp k)) m v ≡ put k v m
  unfolding find
  set_value_put k v h m o f = same_table _ _ (subst (IsStrictlySortedBy nat_cmp) (sym (keys-set_value (is_at (nat_cmp k)) m v)) o) (Ordered-put k v m o)
      (λ q. lookup-set_value (eq_by_cmp_equiv nat_cmp_total) (is_at (nat_cmp k)) (one_key k) q v m (is_there (find k m) h f) ∙ (ap (λ b. cond b (Some v) (find q m)) (swapped q k) ∙ sym (find-put q k v m)))

pub on_ok_with : {T E : Type 0} (r : Result T E) (P Q : Type 0) → (P → Q) → OnOk r P → OnOk r Q
on_ok_with (Ok v) P Q f p = f p
on_ok_with (Err e) P Q f p = tt

-- ---- one log changes ----

abbrev pub there_at : Option Held → Option Log
there_at None = None
there_at (Some h) = if_there h

flat_map : (o : Option Held) → flat (option_map if_there o) ≡ there_at o
flat_map None = refl
flat_map (Some h) = refl

pub find-there_of : (q : ℕ) (m : List (ℕ × Held)) → Ordered m → find q (there_of m) ≡ there_at (find q m)
find-there_of q m h = find-filled q (map_values if_there m) (Ordered-map_values if_there m h) ∙ (ap flat (find-map_values if_there q m) ∙ flat_map (find q m))

shown_there : (b : Bool) (g : Log) → b ≡ true → cond b (Some g) None ≡ Some g
shown_there true g h = refl
shown_there false g h = absurd cc

pub there_of-put : (k : ℕ) (h : Held) (m : List (ℕ × Held)) → Ordered m → h.there ≡ true → there_of (put k h m) ≡ put k h.log (there_of m)
there_of-put k h m o t = ap filled (map_values-put if_there k h m) ∙ (ap (λ x. filled (put k x (map_values if_there m))) (shown_there h.there h.log t) ∙ filled-put k h.log (map_values if_there m) (Ordered-map_values if_there m o))

pub there_of-same : (k : ℕ) (h : Held) (m : List (ℕ × Held)) → Ordered m → there_at (find k m) ≡ if_there h → there_of (put k h m) ≡ there_of m
there_of-same k h m o e = ap filled (map_values-put if_there k h m) ∙ filled-put_same k (if_there h) (map_values if_there m) (Ordered-map_values if_there m o)
    (ap flat (find-map_values if_there k m) ∙ (flat_map (find k m) ∙ e))

held_cases : (b : Bool) (g : Log) → (b ≡ false → g ≡ empty_log) → unwrap_or (cond b (Some g) None) empty_log ≡ g
held_cases true g n = refl
held_cases false g n = sym (n refl)

-- a log that isn't there is an empty one
pub held_is : (q : ℕ) (h : Held) (m : List (ℕ × Held)) → Ordered m → find q m ≡ Some h → (h.there ≡ false → h.log ≡ empty_log) → unwrap_or (find q (there_of m)) empty_log ≡ h.log
held_is q h m o f n = ap (λ x. unwrap_or x empty_log) (find-there_of q m o ∙ ap there_at f) ∙ held_cases h.there h.log n

-- ---- what std's tree answers ----

pub log_added : (k l : ℕ) (h : Held) (m n s : List (ℕ × Held)) → n ≡ insert_entry nat_cmp m k h → k ≡ l → m ≡ s → Ordered m → h.there ≡ true → there_of n ≡ put l h.log (there_of s)
unfolding put
log_added k l h m n s e i v o t = ap there_of e ∙ (there_of-put k h m o t ∙ (ap (λ x. put x h.log (there_of m)) i ∙ ap (λ x. put l h.log (there_of x)) v))

none_of : (o : Option Held) → is_some o ≡ false → o ≡ None
none_of None h = refl
none_of (Some v) h = absurd cc

pub log_not_there : (k l : ℕ) (m : List (ℕ × Held)) → k ≡ l → is_some (find k m) ≡ false → find l m ≡ None
log_not_there k l m e h = subst (λ x. find x m ≡ None) e (none_of (find k m) h)

hidden : (b : Bool) (g : Log) → b ≡ false → None ≡ cond b (Some g) None
hidden true g h = absurd cc
hidden false g h = refl

pub room_added : (k : ℕ) (h : Held) (m n s : List (ℕ × Held)) → n ≡ insert_entry nat_cmp m k h → m ≡ s → Ordered m → find k m ≡ None → h.there ≡ false → there_of n ≡ there_of s
unfolding put
room_added k h m n s e v o f t = ap there_of e ∙ (there_of-same k h m o (ap there_at f ∙ hidden h.there h.log t) ∙ ap there_of v)

shown_alike : (h i : Held) → i.there ≡ h.there → i.log ≡ h.log → if_there h ≡ if_there i
shown_alike h i t g = sym (ap (λ b. cond b (Some i.log) None) t ∙ ap (λ x. cond h.there (Some x) None) g)

-- a log is written where it stands
pub log_written : (k : ℕ) (h i : Held) (m n : List (ℕ × Held)) → Ordered m → find k m ≡ Some h → n ≡ map.set_value (is_at (nat_cmp k)) m i → n ≡ put k i m
log_written k h i m n o f e = e ∙ set_value_put k i h m o f

pub written_alike : (k : ℕ) (h i : Held) (m n : List (ℕ × Held)) → Ordered m → find k m ≡ Some h → n ≡ map.set_value (is_at (nat_cmp k)) m i → i.there ≡ h.there → i.log ≡ h.log → there_of n ≡ there_of m
written_alike k h i m n o f e t g = ap there_of (log_written k h i m n o f e) ∙ there_of-same k i m o (ap there_at f ∙ shown_alike h i t g)

pub found_written : (k : ℕ) (h i : Held) (m n : List (ℕ × Held)) → Ordered m → find k m ≡ Some h → n ≡ map.set_value (is_at (nat_cmp k)) m i → find k n ≡ Some i
found_written k h i m n o f e = ap (find k) (log_written k h i m n o f e) ∙ find-put_same k k i m refl

pub log_changed : (k : ℕ) (h i : Held) (o : Op) (m n : List (ℕ × Held)) → Ordered m → find k m ≡ Some h → n ≡ map.set_value (is_at (nat_cmp k)) m i → i.there ≡ true → i.log ≡ log_after h.log o → (h.there ≡ false → h.log ≡ empty_log)
    → there_of n ≡ put k (log_after (unwrap_or (find k (there_of m)) empty_log) o) (there_of m)
log_changed k h i o m n r f e t g u = ap there_of (log_written k h i m n r f e) ∙ (there_of-put k i m r t
    ∙ ap (λ x. put k x (there_of m)) (g ∙ ap (λ x. log_after x o) (sym (held_is k h m r f u))))

pub log_changed_by : (k l : ℕ) (h i : Held) (o : Op) (m n s : List (ℕ × Held)) → k ≡ l → m ≡ s → Ordered m → find k m ≡ Some h → n ≡ map.set_value (is_at (nat_cmp k)) m i → i.there ≡ true → i.log ≡ log_after h.log o → (h.there ≡ false → h.log ≡ empty_log)
    → there_of n ≡ put l (log_after (unwrap_or (find l (there_of s)) empty_log) o) (there_of s)
log_changed_by k l h i o m n s e v r f w t g u = log_changed k h i o m n r f w t g u
    ∙ (ap (λ x. put x (log_after (unwrap_or (find x (there_of m)) empty_log) o) (there_of m)) e ∙ ap (λ x. put l (log_after (unwrap_or (find l (there_of x)) empty_log) o) (there_of x)) v)

-- ---- an op of one log ----

pub apply_is : (p : Plain) (o : Op) (l : ℕ) → log_named o ≡ Some l → apply p o ≡ with_log p l (log_after (log_of p l) o)
unfolding apply
apply_is p (ops.Format generation epochs) l h = absurd cc
apply_is p (ops.Accept k lng e) l h = let s : k ≡ l = cc in subst (λ x. apply p (ops.Accept k lng e) ≡ with_log p x (log_after (log_of p x) (ops.Accept k lng e))) s refl
apply_is p (ops.Seal k b) l h = let s : k ≡ l = cc in subst (λ x. apply p (ops.Seal k b) ≡ with_log p x (log_after (log_of p x) (ops.Seal k b))) s refl
apply_is p (ops.Clean k epoch y) l h = let s : k ≡ l = cc in subst (λ x. apply p (ops.Clean k epoch y) ≡ with_log p x (log_after (log_of p x) (ops.Clean k epoch y))) s refl
apply_is p (ops.Trim k t) l h = let s : k ≡ l = cc in subst (λ x. apply p (ops.Trim k t) ≡ with_log p x (log_after (log_of p x) (ops.Trim k t))) s refl
apply_is p (ops.Refill k es) l h = let s : k ≡ l = cc in subst (λ x. apply p (ops.Refill k es) ≡ with_log p x (log_after (log_of p x) (ops.Refill k es))) s refl
apply_is p (ops.Refilled k) l h = let s : k ≡ l = cc in subst (λ x. apply p (ops.Refilled k) ≡ with_log p x (log_after (log_of p x) (ops.Refilled k))) s refl

-- ---- the logs of a format ----

pub all-take : {X : Type 0} (P : ℕ → Type 0) (n : ℕ) (m : List (ℕ × X)) → AllByRecursion P (map.keys_of m) → AllByRecursion P (map.keys_of (take n m))
all-take P zero m h = tt
all-take P (suc n) [] h = tt
all-take P (suc n) (e ∷ m) h = (h.0, all-take P n m h.1)

pub Ordered-take : {X : Type 0} (n : ℕ) (m : List (ℕ × X)) → Ordered m → Ordered (take n m)
unfolding IsStrictlySortedBy
Ordered-take zero m h = tt
Ordered-take (suc n) [] h = tt
Ordered-take (suc n) (e ∷ m) h = (all-take (λ y. nat_cmp e.0 y ≡ Less) n m h.0, Ordered-take n m h.1)

last_of : {X : Type 0} (P : ℕ → Type 0) (m : List (ℕ × X)) (e : ℕ × X) → AllByRecursion P (map.keys_of (m ++ e ∷ [])) → P e.0
last_of P [] e h = h.0
last_of P (d ∷ m) e h = last_of P m e h.1

above : (x y : ℕ) → nat_cmp x y ≡ Less → nat_cmp y x ≡ Greater
above x y h = nat_cmp_total.antisymm y x ∙ ap ordering_reverse h

pub lost_logs-put : (ds : List (ℕ × ℕ)) (d : ℕ × ℕ) → Ordered (ds ++ d ∷ []) → put d.0 (lost_log d.1) (lost_logs ds) ≡ lost_logs (ds ++ d ∷ [])
unfolding put IsStrictlySortedBy
lost_logs-put [] d h = refl
lost_logs-put (f ∷ ds) d h = ap (λ r. match_ordering r ((d.0, lost_log d.1) ∷ (f.0, lost_log f.1) ∷ lost_logs ds) ((f.0, lost_log d.1) ∷ lost_logs ds) ((f.0, lost_log f.1) ∷ insert_entry nat_cmp (lost_logs ds) d.0 (lost_log d.1))) (above f.0 d.0 (last_of (λ y. nat_cmp f.0 y ≡ Less) ds d h.0))
    ∙ ap (λ r. (f.0, lost_log f.1) ∷ r) (lost_logs-put ds d h.1)

pub format_is : (p : Plain) (o : Op) (g : ℕ) (ds : List (ℕ × ℕ)) (m : List (ℕ × Log)) → o ≡ ops.Format g ds → m ≡ lost_logs ds → apply p o ≡ record { generation = g; logs = m }
unfolding apply
format_is p o g ds m e h = ap (apply p) e ∙ ap (λ (x : List (ℕ × Log)). record { generation = g; logs = x }) (sym h)
