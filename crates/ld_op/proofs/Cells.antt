-- What ops do with payloads is the same for bytes and for offsets.
use Rattle.std.proofs.Common.{◌≡◌, ℕ, List, [], ◌∷◌, map, filter, Option, None, Some, Bool, true, false, cond, nat_lt, refl, sym, ap, ◌∙◌, option_map}
use Rattle.std.specs.Option.{unwrap_or}
use Rattle.ld_table.specs.Table.{find, put, keep, passes, map_values}
use Rattle.ld_table.proofs.Laws.{map_values-put, find-map_values, map_values-keep_keys}
use Rattle.ld_msg.specs.declared.msg.What.{What}
use Rattle.ld_msg.specs.declared.msg.What.TheVariants.{Rec, Hole, Bridge, Plug, Withheld}
use Rattle.ld_msg.specs.declared.msg.Entry.{Entry}
use Rattle.ld_msg.specs.declared.msg.Summary.{Summary}
use Rattle.ld_op.specs.declared.op.Op.{Op}
use Rattle.ld_op.specs.declared.op.Op.TheVariants as ops
use Rattle.ld_op.specs.Plain.{Plain, Log, empty_log, log_of, with_log, apply, accept_entry, accepted, sealed_by, trimmed_to, cleaned, refill_entries, refilled_with, refilled, lost_log, lost_logs, survives_bridge, survives_clean}
use Rattle.ld_op.specs.Cells.{each_what, each_entry, each_log, each_plain, each_op}

-- ---- tables ----
module _ {X Y : Type 0} (f : X → Y) where
  test_same : (P : ℕ → X → Bool) (Q : ℕ → Y → Bool) → ((k : ℕ) (x : X) → Q k (f x) ≡ P k x) → (k : ℕ) (o : Option X) → passes Q k (option_map f o) ≡ passes P k o
  test_same P Q same k None = refl
  test_same P Q same k (Some x) = same k x

  filter_step : (b : Bool) (e : ℕ × X) (xs : List (ℕ × X)) (ys : List (ℕ × Y)) → map_values f xs ≡ ys → map_values f (cond b (e ∷ xs) xs) ≡ cond b ((e.0, f e.1) ∷ ys) ys
  filter_step true e xs ys is = ap (λ l. (e.0, f e.1) ∷ l) is
  filter_step false e xs ys is = is

  filter_same : (P : ℕ × X → Bool) (Q : ℕ × Y → Bool) → ((e : ℕ × X) → Q (e.0, f e.1) ≡ P e) → (xs : List (ℕ × X)) → map_values f (filter P xs) ≡ filter Q (map_values f xs)
  filter_same P Q same [] = refl
  filter_same P Q same (e ∷ xs) =
      filter_step (P e) e (filter P xs) (filter Q (map_values f xs)) (filter_same P Q same xs) ∙ ap (λ b. cond b ((e.0, f e.1) ∷ filter Q (map_values f xs)) (filter Q (map_values f xs))) (sym (same e))

  pub map_values-keep : (P : ℕ → X → Bool) (Q : ℕ → Y → Bool) → ((k : ℕ) (x : X) → Q k (f x) ≡ P k x) → (m : List (ℕ × X)) → map_values f (keep P m) ≡ keep Q (map_values f m)
  unfolding keep
  map_values-keep P Q same m = filter_same (λ e. passes P e.0 (find e.0 m)) (λ e. passes Q e.0 (find e.0 (map_values f m))) (λ e. ap (passes Q e.0) (find-map_values f e.0 m) ∙ test_same P Q same e.0 (find e.0 m)) m

-- ---- one log ----
module _ (f : ℕ → ℕ) where
  abbrev entries : List (ℕ × Entry) → List (ℕ × Entry)
  entries m = map_values (each_entry f) m

  accept_by : (e : Entry) (w : What) (m : List (ℕ × Entry)) → entries (accept_entry e w m) ≡ accept_entry (each_entry f e) (each_what f w) (entries m)
  accept_by e (Rec p) m = map_values-put (each_entry f) e.number e m
  accept_by e Hole m = map_values-put (each_entry f) e.number e m
  accept_by e Plug m = map_values-put (each_entry f) e.number e m
  accept_by e Withheld m = map_values-put (each_entry f) e.number e m
  accept_by e Bridge m =
      map_values-put (each_entry f) e.number e (keep (λ s g. survives_bridge e g) m) ∙ ap (put e.number (each_entry f e)) (map_values-keep (each_entry f) (λ s g. survives_bridge e g) (λ s g. survives_bridge (each_entry f e) g) (λ k g. refl) m)

  refill_by : (es : List Entry) (m : List (ℕ × Entry)) → entries (refill_entries es m) ≡ refill_entries (map (each_entry f) es) (entries m)
  refill_by [] m = refl
  refill_by (e ∷ es) m = refill_by es (put e.number e m) ∙ ap (refill_entries (map (each_entry f) es)) (map_values-put (each_entry f) e.number e m)

  accepted_by : (g : Log) (lng : ℕ) (e : Entry) → each_log f (accepted g lng e) ≡ accepted (each_log f g) lng (each_entry f e)
  accepted_by g lng e = ap (λ m. record (accepted g lng e) { entries = m }) (accept_by e e.what g.entries)

  cleaned_by : (g : Log) (epoch : ℕ) (y : Summary) → each_log f (cleaned g epoch y) ≡ cleaned (each_log f g) epoch y
  cleaned_by g epoch y = ap (λ m. record (cleaned g epoch y) { entries = m })
      (map_values-keep (each_entry f) (λ s e. survives_clean (cleaned g epoch y).trim epoch y e) (λ s e. survives_clean (cleaned g epoch y).trim epoch y e) (λ k e. refl) g.entries)

  trimmed_by : (g : Log) (t : ℕ) → each_log f (trimmed_to g t) ≡ trimmed_to (each_log f g) t
  trimmed_by g t = ap (λ m. record (trimmed_to g t) { entries = m }) (map_values-keep_keys (each_entry f) (λ s. nat_lt (trimmed_to g t).trim s) g.entries)

  refilled_by : (g : Log) (es : List Entry) → each_log f (refilled_with g es) ≡ refilled_with (each_log f g) (map (each_entry f) es)
  refilled_by g es = ap (λ m. record g { entries = m }) (refill_by es g.entries)

  -- ---- all logs ----

  log_by : (o : Option Log) → unwrap_or (option_map (each_log f) o) empty_log ≡ each_log f (unwrap_or o empty_log)
  log_by None = refl
  log_by (Some g) = refl

  pub log_same : (p : Plain) (l : ℕ) → log_of (each_plain f p) l ≡ each_log f (log_of p l)
  log_same p l = ap (λ o. unwrap_or o empty_log) (find-map_values (each_log f) l p.logs) ∙ log_by (find l p.logs)

  one_log : (p : Plain) (l : ℕ) (g h : Log) → each_log f g ≡ h → each_plain f (with_log p l g) ≡ with_log (each_plain f p) l h
  one_log p l g h is = ap (λ m. record p { logs = m }) (map_values-put (each_log f) l g p.logs ∙ ap (λ k. put l k (map_values (each_log f) p.logs)) is)

  lost_by : (ds : List (ℕ × ℕ)) → map_values (each_log f) (lost_logs ds) ≡ lost_logs ds
  lost_by [] = refl
  lost_by (d ∷ ds) = ap (λ m. (d.0, lost_log d.1) ∷ m) (lost_by ds)

  -- an op on an index gives the index of the state after the op
  pub apply_same : (p : Plain) (o : Op) → each_plain f (apply p o) ≡ apply (each_plain f p) (each_op f o)
  unfolding apply
  apply_same p (ops.Format generation epochs) = ap (λ m. record { generation = generation; logs = m }) (lost_by epochs)
  apply_same p (ops.Accept l lng e) = one_log p l (accepted (log_of p l) lng e) (accepted (log_of (each_plain f p) l) lng (each_entry f e)) (accepted_by (log_of p l) lng e ∙ ap (λ g. accepted g lng (each_entry f e)) (sym (log_same p l)))
  apply_same p (ops.Seal l b) = one_log p l (sealed_by (log_of p l) b) (sealed_by (log_of (each_plain f p) l) b) (ap (λ g. sealed_by g b) (sym (log_same p l)))
  apply_same p (ops.Clean l epoch y) = one_log p l (cleaned (log_of p l) epoch y) (cleaned (log_of (each_plain f p) l) epoch y) (cleaned_by (log_of p l) epoch y ∙ ap (λ g. cleaned g epoch y) (sym (log_same p l)))
  apply_same p (ops.Trim l t) = one_log p l (trimmed_to (log_of p l) t) (trimmed_to (log_of (each_plain f p) l) t) (trimmed_by (log_of p l) t ∙ ap (λ g. trimmed_to g t) (sym (log_same p l)))
  apply_same p (ops.Refill l es) = one_log p l (refilled_with (log_of p l) es) (refilled_with (log_of (each_plain f p) l) (map (each_entry f) es)) (refilled_by (log_of p l) es ∙ ap (λ g. refilled_with g (map (each_entry f) es)) (sym (log_same p l)))
  apply_same p (ops.Refilled l) = one_log p l (refilled (log_of p l)) (refilled (log_of (each_plain f p) l)) (ap refilled (sym (log_same p l)))
