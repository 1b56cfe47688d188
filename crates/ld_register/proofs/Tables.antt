-- What is shown of the tables that are kept.
use Rattle.std.proofs.Common.{◌≡◌, ◌≤◌, ◌<◌, ◌+◌, ◌-◌, ◌^◌, ◌&&◌, ◌==◌, inl, inr, ℕ, zero, suc, Bool, true, false, not, cond, List, [], ◌∷◌, ◌++◌, Option, Some, None, is_some, IsSome, option_map, Less, refl, ap, sym, ◌∙◌, subst, arith, eqb, nat_cmp, nat_lt, nat_le, filter, length, length-append, if◌then◌else◌}
use Rattle.std.specs.Option.{unwrap_or}
use Rattle.std.specs.Map as map
use Rattle.std.specs.BTreeMap.{is_at}
use Rattle.std.specs.Cmp.{nat_cmp_total, eq_by_cmp_equiv}
use Rattle.std.specs.Ordering.{eq_by_cmp, is_eq}
use Rattle.std.specs.List.{AllByRecursion}
use Rattle.std.specs.List.Sorted.{IsStrictlySortedBy}
use Rattle.std.proofs.lemmas.Map.{lookup-set_value, keys-set_value}
use Rattle.ld_ids.specs.Id.{IsLog}
use Rattle.ld_op.specs.Bounds.{AreEpochs}
use Rattle.std.proofs.lemmas.Bool.{cases_eq}
use Rattle.std.proofs.lemmas.Bool.Decides.{nat_tests}
use Rattle.ld_table.specs.Table.{find, put, keep_keys, map_values, Ordered}
use Rattle.ld_table.specs.Words.{how_many}
use Rattle.ld_table.proofs.Laws.{same_key, tied, find-keep_keys, find-put, find-put_same, find-put_other, find-keep, kept, find-map_values, map_values-put, put_cases, find-empty}
use Rattle.ld_table.proofs.Order.{Ordered-put, Ordered-keep, keep_is, same_table, found}
use Rattle.ld_op.proofs.There.{Ordered-map_values}
use Rattle.ld_ids.specs.declared.set.Spec.{Spec}
use Rattle.ld_msg.specs.declared.msg.Summary.{Summary}
use Rattle.ld_msg.specs.Register.{Epochs, no_epochs, epochs_of, generation_of, summary_shown, epoch_shown, epochs_in, swappable, swap_count, closed_upto}
use Rattle.ld_register.specs.Calls.{spec_told}
use Rattle.ld_register.specs.Kept.{is_up_to, shown_log, Kept, is_held, shown_logs, shown_generations, register_of, log_at, IsLogOf, AreLogs}
use Rattle.ld_register.proofs.Logs.{not_found}

module _ {X : Type 0} (p : X → Bool) where
  -- the entries that pass, as a table
  passing : List (ℕ × X) → List (ℕ × X)
  passing m = filter (λ e. p e.1) m

  abbrev value_passes : Option X → Option X
  value_passes None = None
  value_passes (Some v) = cond (p v) (Some v) None

  one_kept : (q : ℕ) (o : Option X) → kept (λ k v. p v) q o ≡ value_passes o
  one_kept q None = refl
  one_kept q (Some v) = refl

  pub Ordered-passing : (m : List (ℕ × X)) → Ordered m → Ordered (filter (λ e. p e.1) m)
  Ordered-passing m h = subst (λ (n : List (ℕ × X)). Ordered n) (sym (keep_is (λ k v. p v) m h)) (Ordered-keep (λ k v. p v) m h)

  pub find-passing : (q : ℕ) (m : List (ℕ × X)) → Ordered m → find q (filter (λ e. p e.1) m) ≡ value_passes (find q m)
  find-passing q m h = ap (find q) (keep_is (λ k v. p v) m h) ∙ (find-keep q (λ k v. p v) m ∙ one_kept q (find q m))

  -- what passes is put, and what doesn't isn't seen where nothing that passes was
  pub passing_put : (k : ℕ) (v : X) (m : List (ℕ × X)) → Ordered m → p v ≡ true → filter (λ e. p e.1) (put k v m) ≡ put k v (filter (λ e. p e.1) m)
  passing_put k v m h t = same_table _ _ (Ordered-passing (put k v m) (Ordered-put k v m h)) (Ordered-put k v _ (Ordered-passing m h)) (λ q.
      find-passing q (put k v m) (Ordered-put k v m h) ∙ (elim (cases_eq q k) as (λ s. value_passes (find q (put k v m)) ≡ find q (put k v (filter (λ e. p e.1) m))) [
        | inl e ↦ ap value_passes (find-put_same q k v m e) ∙ (ap (λ b. cond b (Some v) None) t ∙ sym (find-put_same q k v _ e))
        | inr n ↦ ap value_passes (find-put_other q k v m n) ∙ (sym (find-passing q m h) ∙ sym (find-put_other q k v _ n))
      ]))

  pub passing_hidden : (k : ℕ) (v : X) (m : List (ℕ × X)) → Ordered m → value_passes (Some v) ≡ value_passes (find k m) → filter (λ e. p e.1) (put k v m) ≡ filter (λ e. p e.1) m
  passing_hidden k v m h t = same_table _ _ (Ordered-passing (put k v m) (Ordered-put k v m h)) (Ordered-passing m h) (λ q.
      find-passing q (put k v m) (Ordered-put k v m h) ∙ (elim (cases_eq q k) as (λ s. value_passes (find q (put k v m)) ≡ find q (filter (λ e. p e.1) m)) [
        | inl e ↦ ap value_passes (find-put_same q k v m e) ∙ (t ∙ (ap (λ j. value_passes (find j m)) (sym e) ∙ sym (find-passing q m h)))
        | inr n ↦ ap value_passes (find-put_other q k v m n) ∙ sym (find-passing q m h)
      ]))

-- ---- logs ----

pub find-shown : (q : ℕ) (m : List (ℕ × Epochs)) → Ordered m → find q (shown_logs m) ≡ value_passes is_held (option_map shown_log (find q m))
find-shown q m h = find-passing is_held q (map_values shown_log m) (Ordered-map_values shown_log m h) ∙ ap (value_passes is_held) (find-map_values shown_log q m)

never_up : (e : ℕ) → is_up_to 0 e ≡ false
never_up e = grind (arith, nat_tests)

none_up : {X : Type 0} (m : List (ℕ × X)) → keep_keys (is_up_to 0) m ≡ []
unfolding keep_keys
none_up [] = refl
none_up (e ∷ m) = rw (never_up e.0) (none_up m)

not_held : (v : Epochs) → is_held v ≡ false → (v.epoch ≡ 0) × (v.lce ≡ 0) × (v.swaps ≡ 0)
not_held v h = (grind (arith, nat_tests), grind (arith, nat_tests), grind (arith, nat_tests))

none_shown : (p w : List (ℕ × Spec)) (y : List (ℕ × Summary)) → record { epoch = 0; lce = 0; specs = keep_keys (is_up_to 0) p; swapped = keep_keys (is_up_to 0) w; swaps = 0; summaries = keep_keys (is_up_to 0) y } ≡ no_epochs
none_shown p w y = ap (λ s. record { epoch = 0; lce = 0; specs = s; swapped = keep_keys (is_up_to 0) w; swaps = 0; summaries = keep_keys (is_up_to 0) y }) (none_up p)
    ∙ (ap (λ s. record { epoch = 0; lce = 0; specs = []; swapped = s; swaps = 0; summaries = keep_keys (is_up_to 0) y }) (none_up w) ∙ ap (λ s. record { epoch = 0; lce = 0; specs = []; swapped = []; swaps = 0; summaries = s }) (none_up y))

hidden_by : (v : Epochs) (b : Bool) → is_held v ≡ b → unwrap_or (cond b (Some (shown_log v)) None) no_epochs ≡ shown_log v
hidden_by v true h = refl
hidden_by v false h = let z = not_held v h in sym (ap (λ n. record { epoch = n; lce = v.lce; specs = keep_keys (is_up_to n) v.specs; swapped = keep_keys (is_up_to n) v.swapped; swaps = v.swaps; summaries = keep_keys (is_up_to v.lce) v.summaries }) z.0
    ∙ (ap (λ n. record { epoch = 0; lce = n; specs = keep_keys (is_up_to 0) v.specs; swapped = keep_keys (is_up_to 0) v.swapped; swaps = v.swaps; summaries = keep_keys (is_up_to n) v.summaries }) z.1
    ∙ (ap (λ n. record { epoch = 0; lce = 0; specs = keep_keys (is_up_to 0) v.specs; swapped = keep_keys (is_up_to 0) v.swapped; swaps = n; summaries = keep_keys (is_up_to 0) v.summaries }) z.2 ∙ none_shown v.specs v.swapped v.summaries)))

shown_or : (o : Option Epochs) → unwrap_or (value_passes is_held (option_map shown_log o)) no_epochs ≡ shown_log (unwrap_or o no_epochs)
shown_or None = sym (none_shown [] [] [])
shown_or (Some v) = hidden_by v (is_held v) refl

-- what is shown of a log
pub at_shown : (l : ℕ) (m : List (ℕ × Epochs)) → Ordered m → log_at (shown_logs m) l ≡ shown_log (log_at m l)
at_shown l m h = ap (λ o. unwrap_or o no_epochs) (find-shown l m h) ∙ shown_or (find l m)

pub log_found : (j l : ℕ) (m k : List (ℕ × Epochs)) (o : Option Epochs) → j ≡ l → m ≡ k → Ordered m → find j m ≡ o → log_at (shown_logs k) l ≡ shown_log (unwrap_or o no_epochs)
log_found j l m k o e w h f = ap (λ x. log_at (shown_logs x) l) (sym w) ∙ (at_shown l m h ∙ ap (λ x. shown_log (unwrap_or x no_epochs)) (ap (λ i. find i m) (sym e) ∙ f))

-- ---- changes of the logs that are shown ----

pub shown_put_log : (k : ℕ) (v : Epochs) (m : List (ℕ × Epochs)) → Ordered m → is_held v ≡ true → shown_logs (put k v m) ≡ put k (shown_log v) (shown_logs m)
shown_put_log k v m h t = ap (λ n. filter (λ e. is_held e.1) n) (map_values-put shown_log k v m) ∙ passing_put is_held k (shown_log v) (map_values shown_log m) (Ordered-map_values shown_log m h) t

pub shown_same : (k : ℕ) (v : Epochs) (m : List (ℕ × Epochs)) → Ordered m → value_passes is_held (Some (shown_log v)) ≡ value_passes is_held (option_map shown_log (find k m)) → shown_logs (put k v m) ≡ shown_logs m
shown_same k v m h t = ap (λ n. filter (λ e. is_held e.1) n) (map_values-put shown_log k v m)
    ∙ passing_hidden is_held k (shown_log v) (map_values shown_log m) (Ordered-map_values shown_log m h) (t ∙ ap (value_passes is_held) (sym (find-map_values shown_log k m)))

one_key : (k x y : ℕ) → is_at (nat_cmp k) x ≡ true → is_at (nat_cmp k) y ≡ eq_by_cmp nat_cmp x y
one_key k x y h = ap (λ z. is_eq (nat_cmp z y)) (same_key k x h)

turned : (q k : ℕ) → is_at (nat_cmp k) q ≡ eqb q k
turned q k = (eq_by_cmp_equiv nat_cmp_total).symm k q ∙ tied q k

module _ {X : Type 0} where
  is_there : (o : Option X) (h : X) → o ≡ Some h → IsSome o
  is_there None h e = absurd cc
  is_there (Some v) h e = refl

  -- to write at a key that is there is to put
  pub set_value_put : (k : ℕ) (v h : X) (m : List (ℕ × X)) → Ordered m → find k m ≡ Some h → map.set_value (is_at (nat_cmp k)) m v ≡ put k v m
  unfolding find
  set_value_put k v h m o f = same_table _ _ (subst (IsStrictlySortedBy nat_cmp) (sym (keys-set_value (is_at (nat_cmp k)) m v)) o) (Ordered-put k v m o)
      (λ q. lookup-set_value (eq_by_cmp_equiv nat_cmp_total) (is_at (nat_cmp k)) (one_key k) q v m (is_there (find k m) h f) ∙ (ap (λ b. cond b (Some v) (find q m)) (turned q k) ∙ sym (find-put q k v m)))

are_logs_put : (k : ℕ) (v : Epochs) (m n : List (ℕ × Epochs)) → IsLog k → IsLogOf k v → n ≡ put k v m → AreLogs m → AreLogs n
are_logs_put k v m n i b e h l w f = elim (put_cases l k v m) [
  | inl c ↦ (subst IsLog (sym c.0) i, subst (λ j. IsLogOf j w) (sym c.0) (subst (IsLogOf k) (ap (λ o. unwrap_or o no_epochs) (sym c.1 ∙ (ap (find l) (sym e) ∙ f))) b))
  | inr c ↦ h l w (sym c.1 ∙ (ap (find l) (sym e) ∙ f))
]

no_log_of : (l : ℕ) → IsLogOf l no_epochs
no_log_of l = record { epoch = omega arith; specs = λ e s f. absurd (not_found (find e []) s (find-empty {X = Spec} e) f) }

-- a log's room
pub room_logs : (j k l : ℕ) (v : Epochs) (m n : List (ℕ × Epochs)) → j ≡ l → k ≡ l → v ≡ no_epochs → n ≡ put k v m → Ordered m → is_some (find j m) ≡ false → IsLog l
    → (shown_logs n ≡ shown_logs m) × (log_at n l ≡ log_at m l) × (is_some (find l n) ≡ true) × (AreLogs m → AreLogs n)
room_logs j k l v m n je ke ve e o none is =
    let absent : find l m ≡ None = ap (λ i. find i m) (sym je) ∙ not_there (find j m) none in
    let there : n ≡ put l no_epochs m = e ∙ (ap (λ i. put i v m) ke ∙ ap (λ w. put l w m) ve) in (
      ap shown_logs there ∙ shown_same l no_epochs m o (sym (ap (λ x. value_passes is_held (option_map shown_log x)) absent)),
      ap (λ x. log_at x l) there ∙ (ap (λ x. unwrap_or x no_epochs) (find-put_same l l no_epochs m refl) ∙ sym (ap (λ x. unwrap_or x no_epochs) absent)),
      ap (λ x. is_some (find l x)) there ∙ ap is_some (find-put_same l l no_epochs m refl),
      are_logs_put l no_epochs m n is (no_log_of l) there,
    )
  where
    not_there : (x : Option Epochs) → is_some x ≡ false → x ≡ None
    not_there None h = refl
    not_there (Some w) h = absurd cc

-- a log that is written where it stands
pub record Written (l : ℕ) (v w : Epochs) (m n : List (ℕ × Epochs)) : Type 0 where
  pub is : n ≡ put l w m
  pub was : find l m ≡ Some v
  pub at_was : log_at m l ≡ v
  pub at_is : log_at n l ≡ w
  pub there : is_some (find l n) ≡ is_some (find l m)
  pub logs : (IsLogOf l v → IsLogOf l w) → AreLogs m → AreLogs n

pub written : (j l : ℕ) (v w : Epochs) (m n : List (ℕ × Epochs)) → j ≡ l → Ordered m → find j m ≡ Some v → n ≡ map.set_value (is_at (nat_cmp j)) m w → IsLog l → Written l v w m n
written j l v w m n je o f e is =
    let put_is : n ≡ put l w m = e ∙ (set_value_put j w v m o f ∙ ap (λ i. put i w m) je) in
    let found : find l m ≡ Some v = ap (λ i. find i m) (sym je) ∙ f in
    record {
      is = put_is;
      was = found;
      at_was = ap (λ x. unwrap_or x no_epochs) found;
      at_is = ap (λ x. log_at x l) put_is ∙ ap (λ x. unwrap_or x no_epochs) (find-put_same l l w m refl);
      there = ap (λ x. is_some (find l x)) put_is ∙ (ap is_some (find-put_same l l w m refl) ∙ sym (ap is_some found));
      logs = λ b h. are_logs_put l w m n is (b (h l v found).1) put_is h;
    }

pub written_same : (l : ℕ) (v w : Epochs) (m n : List (ℕ × Epochs)) → Ordered m → Written l v w m n → shown_log w ≡ shown_log v → shown_logs n ≡ shown_logs m
written_same l v w m n o h e = ap shown_logs h.is ∙ shown_same l w m o (ap (λ x. value_passes is_held (Some x)) e ∙ sym (ap (λ x. value_passes is_held (option_map shown_log x)) h.was))

pub written_shown : (l : ℕ) (v w : Epochs) (m n : List (ℕ × Epochs)) → Ordered m → Written l v w m n → is_held w ≡ true → shown_logs n ≡ put l (shown_log w) (shown_logs m)
written_shown l v w m n o h t = ap shown_logs h.is ∙ shown_put_log l w m o t

pub at_there : (j l : ℕ) (v : Epochs) (m : List (ℕ × Epochs)) → j ≡ l → find j m ≡ Some v → log_at m l ≡ v
at_there j l v m e f = ap (λ i. log_at m i) (sym e) ∙ ap (λ o. unwrap_or o no_epochs) f

missing : {X : Type 0} → (o : Option X) → o ≡ None → is_some o ≡ true → ⊥
missing None e h = absurd cc
missing (Some v) e h = absurd cc

pub never_there : (j l : ℕ) (m : List (ℕ × Epochs)) → j ≡ l → find j m ≡ None → is_some (find l m) ≡ true → ⊥
never_there j l m e f h = missing (find l m) (ap (λ i. find i m) (sym e) ∙ f) h

pub log_there : (j l : ℕ) (v : Epochs) (m : List (ℕ × Epochs)) → j ≡ l → find j m ≡ Some v → AreLogs m → IsLogOf l v
log_there j l v m e f h = (h l v (ap (λ i. find i m) (sym e) ∙ f)).1

-- a log in which a swap changes an epoch is there
pub shown_found : (l upto old new : ℕ) (m : List (ℕ × Epochs)) → 0 < swap_count (closed_upto (log_at m l) upto) old new (log_at m l).swapped → find l m ≡ Some (log_at m l)
shown_found l upto old new m h = by_found (find l m) refl
  where
    by_found : (o : Option Epochs) → find l m ≡ o → find l m ≡ Some (log_at m l)
    by_found (Some v) f = f ∙ ap (λ o. Some (unwrap_or o no_epochs)) (sym f)
    by_found None f = absurd (let z = ap (λ o. swap_count (closed_upto (unwrap_or o no_epochs) upto) old new (unwrap_or o no_epochs).swapped) f in omega arith)

-- ---- look-ups in what is shown ----

pub found_at : (j l : ℕ) (m : List (ℕ × Epochs)) (k : Kept) (g : List (ℕ × ℕ)) (o : Option Epochs) → record { logs = m; generations = g } ≡ k → j ≡ l → Ordered m → find j m ≡ o → (n : ℕ) → epochs_of (register_of k n) l ≡ shown_log (unwrap_or o no_epochs)
found_at j l m k g o w e h f n = log_found j l m k.logs o e (ap (λ x. x.logs) w) h f

shown_number : (g : ℕ) (b : Bool) → nat_lt 0 g ≡ b → unwrap_or (cond b (Some g) None) 0 ≡ g
shown_number g true h = refl
shown_number zero false h = refl
shown_number (suc g) false h = absurd (let l : nat_lt 0 (suc g) ≡ true = grind (arith, nat_tests) in cc)

shown_value : (o : Option ℕ) → unwrap_or (value_passes (λ g. nat_lt 0 g) o) 0 ≡ unwrap_or o 0
shown_value None = refl
shown_value (Some g) = shown_number g (nat_lt 0 g) refl

pub generation_at : (j l : ℕ) (m : List (ℕ × Epochs)) (g : List (ℕ × ℕ)) (k : Kept) (o : Option ℕ) → record { logs = m; generations = g } ≡ k → j ≡ l → Ordered g → find j g ≡ o → (n : ℕ) → unwrap_or o 0 ≡ generation_of (register_of k n) l
generation_at j l m g k o w e h f n = sym (ap (λ x. unwrap_or (find l (shown_generations x)) 0) (sym (ap (λ x. x.generations) w))
    ∙ (ap (λ x. unwrap_or x 0) (find-passing (λ g. nat_lt 0 g) l g h) ∙ (shown_value (find l g) ∙ ap (λ x. unwrap_or x 0) (ap (λ i. find i g) (sym e) ∙ f))))

-- an epoch that isn't closed has no summary that is shown
summary_if : (v : Epochs) (e : ℕ) (b : Bool) → is_up_to v.lce e ≡ b → find e (shown_log v).summaries ≡ (if b then find e (shown_log v).summaries else None)
summary_if v e true h = refl
summary_if v e false h = find-keep_keys e (is_up_to v.lce) v.summaries ∙ ap (λ b. cond b (find e v.summaries) None) h

pub summary_at : (k : Kept) (n l e : ℕ) (v : Epochs) → epochs_of (register_of k n) l ≡ shown_log v → find e (shown_log v).summaries ≡ summary_shown (register_of k n) l e
summary_at k n l e v h = subst (λ w. find e (shown_log v).summaries ≡ (if nat_le 1 e && nat_le e w.lce then find e w.summaries else None)) (sym h) (summary_if v e (is_up_to v.lce e) refl)

pub no_summary : (k : Kept) (n l e : ℕ) → epochs_of (register_of k n) l ≡ shown_log no_epochs → None ≡ summary_shown (register_of k n) l e
no_summary k n l e h = sym (find-keep_keys e (is_up_to 0) [] ∙ ap (λ b. cond b (find e []) None) (never_up e)) ∙ summary_at k n l e no_epochs h

pub spec_at : (k : Kept) (n l e : ℕ) (v : Epochs) → epochs_of (register_of k n) l ≡ shown_log v → find (epoch_shown (shown_log v) e) (shown_log v).swapped ≡ spec_told (register_of k n) l e
spec_at k n l e v h = ap (λ w. find (epoch_shown w e) w.swapped) (sym h)

pub no_spec : (k : Kept) (n l e : ℕ) → epochs_of (register_of k n) l ≡ shown_log no_epochs → None ≡ spec_told (register_of k n) l e
no_spec k n l e h = sym (ap (find (epoch_shown (shown_log no_epochs) e)) (none_up []) ∙ find-empty {X = Spec} (epoch_shown (shown_log no_epochs) e)) ∙ spec_at k n l e no_epochs h

pub swappable_at : (k : Kept) (n l upto old new : ℕ) (v : Epochs) → epochs_of (register_of k n) l ≡ shown_log v → swap_count (closed_upto (shown_log v) upto) old new (shown_log v).swapped ≡ swappable (register_of k n) l upto old new
swappable_at k n l upto old new v h = ap (λ w. swap_count (closed_upto w upto) old new w.swapped) (sym h)

pub none_swappable : (k : Kept) (n l upto old new : ℕ) → epochs_of (register_of k n) l ≡ shown_log no_epochs → 0 ≡ swappable (register_of k n) l upto old new
none_swappable k n l upto old new h = sym (ap (swap_count (closed_upto (shown_log no_epochs) upto) old new) (none_up [])) ∙ swappable_at k n l upto old new no_epochs h

-- ---- how many others are held ----

how_if : (f : ℕ × Epochs → Bool) (x : ℕ × Epochs) (xs : List (ℕ × Epochs)) (p q : Bool) → f x ≡ q → how_many f (cond p (x ∷ xs) xs) ≡ (if p && q then suc (how_many f xs) else how_many f xs)
how_if f x xs true q h = ap (λ b. if b then suc (how_many f xs) else how_many f xs) h
how_if f x xs false q h = refl

abbrev pub others : ℕ → List (ℕ × Epochs) → ℕ
others l [] = 0
others l (e ∷ m) = if is_held e.1 && not (e.0 == l) then suc (others l m) else others l m

pub others_are : (l : ℕ) (m : List (ℕ × Epochs)) → others l m ≡ how_many (λ k. not (k.0 == l)) (shown_logs m)
others_are l [] = refl
others_are l (e ∷ m) = ap (λ n. if is_held e.1 && not (e.0 == l) then suc n else n) (others_are l m) ∙ sym (how_if (λ k. not (k.0 == l)) (e.0, shown_log e.1) (shown_logs m) (is_held e.1) (not (e.0 == l)) refl)

others_on : (b c : Bool) (n k : ℕ) → n ≡ (if c then suc k else k) → (if b then suc n else n) ≡ (if c then suc (if b then suc k else k) else (if b then suc k else k))
others_on true true n k h = ap suc h
others_on true false n k h = ap suc h
others_on false true n k h = h
others_on false false n k h = h

pub others-push : (l : ℕ) (m : List (ℕ × Epochs)) (e : ℕ × Epochs) (c : Bool) → c ≡ (is_held e.1 && not (e.0 == l)) → others l (m ++ e ∷ []) ≡ (if c then suc (others l m) else others l m)
others-push l [] e c h = ap (λ b. if b then 1 else 0) (sym h)
others-push l (d ∷ m) e c h = others_on (is_held d.1 && not (d.0 == l)) c (others l (m ++ e ∷ [])) (others l m) (others-push l m e c h)

few_others : (b : Bool) (n k : ℕ) → n ≤ k → (if b then suc n else n) ≤ suc k
few_others true n k h = omega arith
few_others false n k h = omega arith

pub others_most : (l : ℕ) (m : List (ℕ × Epochs)) → others l m ≤ length m
others_most l [] = omega arith
others_most l (e ∷ m) = few_others (is_held e.1 && not (e.0 == l)) (others l m) (length m) (others_most l m)

pub room_to_count : (l n : ℕ) (xs ys all : List (ℕ × Epochs)) (y : ℕ × Epochs) → xs ++ y ∷ ys ≡ all → length all ≡ n → n < 2 ^ 63 → others l xs + 1 < 2 ^ 64
room_to_count l n xs ys all y h e small = let a = others_most l xs in omega (arith, ap length h, length-append xs (y ∷ ys))

pub no_logs : AreLogs []
no_logs l v f = absurd (not_found (find l []) v (find-empty {X = Epochs} l) f)

-- the same, with what is shown
pub shown_there : (j l : ℕ) (v : Epochs) (m : List (ℕ × Epochs)) → j ≡ l → Ordered m → find j m ≡ Some v → log_at (shown_logs m) l ≡ shown_log v
shown_there j l v m e h f = at_shown l m h ∙ ap shown_log (at_there j l v m e f)

-- ---- generations ----

gone : (o : Option ℕ) → is_some o ≡ false → o ≡ None
gone None h = refl
gone (Some v) h = absurd cc

pub room_generation : (j k n : ℕ) (m g : List (ℕ × ℕ)) → j ≡ n → k ≡ n → g ≡ put k 0 m → Ordered m → is_some (find j m) ≡ false → (shown_generations g ≡ shown_generations m) × (is_some (find n g) ≡ true)
room_generation j k n m g je ke e o none =
    let absent : find n m ≡ None = ap (λ i. find i m) (sym je) ∙ gone (find j m) none in
    let there : g ≡ put n 0 m = e ∙ ap (λ i. put i 0 m) ke in (
      ap shown_generations there ∙ passing_hidden (λ v. nat_lt 0 v) n 0 m o (sym (ap (value_passes (λ v. nat_lt 0 v)) absent)),
      ap (λ x. is_some (find n x)) there ∙ ap is_some (find-put_same n n 0 m refl),
    )

pub drawn_generation : (k n v : ℕ) (m g : List (ℕ × ℕ)) → k ≡ n → g ≡ put k v m → Ordered m → 0 < v → shown_generations g ≡ put n v (shown_generations m)
drawn_generation k n v m g ke e o h = ap shown_generations (e ∙ ap (λ i. put i v m) ke) ∙ passing_put (λ w. nat_lt 0 w) n v m o (grind (arith, nat_tests))

-- ---- the epoch of each log that has one ----

active_step : (b : Bool) (e : ℕ × ℕ) (xs ys : List (ℕ × ℕ)) → xs ≡ ys → (if b then xs else e ∷ xs) ≡ (if b then ys else e ∷ ys)
active_step true e xs ys h = h
active_step false e xs ys h = ap (λ l. e ∷ l) h

push_step : (b : Bool) (e : ℕ × ℕ) (xs ys zs : List (ℕ × ℕ)) → xs ≡ ys ++ zs → (if b then xs else e ∷ xs) ≡ (if b then ys else e ∷ ys) ++ zs
push_step true e xs ys zs h = h
push_step false e xs ys zs h = ap (λ l. e ∷ l) h

pub active-push : (es : List (ℕ × Epochs)) (e : ℕ × Epochs) → epochs_in (es ++ e ∷ []) ≡ epochs_in es ++ epochs_in (e ∷ [])
active-push [] e = refl
active-push (d ∷ es) e = push_step (d.1.epoch == 0) (d.0, d.1.epoch) _ _ _ (active-push es e)

none_active : (v : Epochs) → is_held v ≡ false → (v.epoch == 0) ≡ true
none_active v h = grind (arith, nat_tests)

shown_active : (e : ℕ × Epochs) (m : List (ℕ × Epochs)) (b : Bool) → is_held e.1 ≡ b → epochs_in (cond b ((e.0, shown_log e.1) ∷ shown_logs m) (shown_logs m)) ≡ (if e.1.epoch == 0 then epochs_in (shown_logs m) else (e.0, e.1.epoch) ∷ epochs_in (shown_logs m))
shown_active e m true h = refl
shown_active e m false h = sym (ap (λ b. if b then epochs_in (shown_logs m) else (e.0, e.1.epoch) ∷ epochs_in (shown_logs m)) (none_active e.1 h))

-- logs that aren't shown have no epoch
pub active_is : (m : List (ℕ × Epochs)) → epochs_in m ≡ epochs_in (shown_logs m)
active_is [] = refl
active_is (e ∷ m) = active_step (e.1.epoch == 0) (e.0, e.1.epoch) _ _ (active_is m) ∙ sym (shown_active e m (is_held e.1) refl)

-- rising logs, each from a number on
abbrev pub AllFrom : ℕ → List (ℕ × Epochs) → Type 0
AllFrom from [] = Unit {0}
AllFrom from (e ∷ es) = (from ≤ e.0) × IsLog e.0 × (e.1.epoch < 2 ^ 32) × AllFrom (e.0 + 1) es

lower : (from to : ℕ) (es : List (ℕ × ℕ)) → from ≤ to → AreEpochs to es → AreEpochs from es
lower from to [] h a = tt
lower from to (e ∷ es) h a = (let l = a.0 in omega arith, a.1, a.2, a.3, a.4)

epochs_step : (from : ℕ) (e : ℕ × Epochs) (es : List (ℕ × ℕ)) (b : Bool) → (e.1.epoch == 0) ≡ b → from ≤ e.0 → IsLog e.0 → e.1.epoch < 2 ^ 32 → AreEpochs (e.0 + 1) es → AreEpochs from (if b then es else (e.0, e.1.epoch) ∷ es)
epochs_step from e es true h f i small a = lower from (e.0 + 1) es (omega arith) a
epochs_step from e es false h f i small a = (f, i, grind (arith, nat_tests), small, a)

pub active_epochs : (from : ℕ) (m : List (ℕ × Epochs)) → AllFrom from m → AreEpochs from (epochs_in m)
active_epochs from [] h = tt
active_epochs from (e ∷ m) h = epochs_step from e (epochs_in m) (e.1.epoch == 0) refl h.0 h.1 h.2 (active_epochs (e.0 + 1) m h.3)

less_is : (x y : ℕ) → nat_cmp x y ≡ Less → x < y
less_is x y h = grind (arith, nat_tests)

later_keys : (x : ℕ) (ks : List ℕ) → AllByRecursion (λ y. nat_cmp x y ≡ Less) ks → AllByRecursion (λ y. x + 1 ≤ y) ks
later_keys x [] h = tt
later_keys x (k ∷ ks) h = (let l = less_is x k h.0 in omega arith, later_keys x ks h.1)

all_from : (from : ℕ) (m : List (ℕ × Epochs)) → AllByRecursion (λ y. from ≤ y) (map.keys_of m) → Ordered m → AllByRecursion (λ e. IsLog e.0 × (e.1.epoch ≤ 2 ^ 32 - 2)) m → AllFrom from m
unfolding IsStrictlySortedBy
all_from from [] f o h = tt
all_from from (e ∷ m) f o h = (f.0, h.0.0, (let b = h.0.1 in omega arith), all_from (e.0 + 1) m (later_keys e.0 (map.keys_of m) o.0) o.1 h.1)

each_log : (m es : List (ℕ × Epochs)) → AreLogs m → AllByRecursion (λ e. find e.0 m ≡ Some e.1) es → AllByRecursion (λ e. IsLog e.0 × (e.1.epoch ≤ 2 ^ 32 - 2)) es
each_log m [] h f = tt
each_log m (e ∷ es) h f = (let i = h e.0 e.1 f.0 in (i.0, i.1.epoch), each_log m es h f.1)

one_on : (m : List (ℕ × Epochs)) → AllByRecursion (λ e. IsLog e.0 × (e.1.epoch ≤ 2 ^ 32 - 2)) m → AllByRecursion (λ y. 1 ≤ y) (map.keys_of m)
one_on [] h = tt
one_on (e ∷ m) h = (h.0.0.0, one_on m h.1)

pub active_bounds : (m : List (ℕ × Epochs)) → Ordered m → AreLogs m → AreEpochs 1 (epochs_in m)
active_bounds m o h = let a = each_log m m h (found m o) in active_epochs 1 m (all_from 1 m (one_on m a) o a)
