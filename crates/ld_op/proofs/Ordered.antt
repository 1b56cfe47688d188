-- Ops keep the order of logs and entries.
use Rattle.std.proofs.Common.{◌≡◌, ⊎_elim, ℕ, List, [], ◌∷◌, Option, None, Some, Bool, true, false, cond, refl, sym, ap, subst, ◌∙◌, max, nat_lt, nat_cmp}
use Rattle.std.specs.Option.{unwrap_or}
use Rattle.std.specs.List.Sorted.{IsStrictlySortedBy}
use Rattle.std.specs.BTreeMap.{is_at}
use Rattle.std.specs.Map as map
use Rattle.ld_table.specs.Table.{find, put, keep, keep_keys, Ordered}
use Rattle.ld_table.proofs.Laws.{put_cases}
use Rattle.ld_table.proofs.Order.{Ordered-put, Ordered-keep, keep_is}
use Rattle.ld_msg.specs.declared.msg.What.{What}
use Rattle.ld_msg.specs.declared.msg.What.TheVariants.{Rec, Hole, Bridge, Plug, Withheld}
use Rattle.ld_msg.specs.declared.msg.Entry.{Entry}
use Rattle.ld_op.specs.declared.op.Op.{Op}
use Rattle.ld_op.specs.declared.op.Op.TheVariants as ops
use Rattle.ld_op.specs.Plain.{Plain, Log, empty_log, log_of, with_log, apply, accept_entry, accepted, sealed_by, trimmed_to, cleaned, refill_entries, refilled_with, refilled, lost_log, lost_logs, survives_bridge, survives_clean}
use Rattle.ld_op.specs.Rising.{IsRising}
use Rattle.ld_op.specs.Cells.{IsOrdered}

none_ordered : Ordered {X = Entry} []
unfolding IsStrictlySortedBy
none_ordered = tt

keys_ordered : (P : ℕ → Bool) (m : List (ℕ × Entry)) → Ordered m → Ordered (keep_keys P m)
unfolding keep_keys
keys_ordered P m ordered = subst (λ n. Ordered n) (sym (keep_is (λ k e. P k) m ordered)) (Ordered-keep (λ k e. P k) m ordered)

accept_ordered : (e : Entry) (w : What) (m : List (ℕ × Entry)) → Ordered m → Ordered (accept_entry e w m)
accept_ordered e (Rec p) m ordered = Ordered-put e.number e m ordered
accept_ordered e Hole m ordered = Ordered-put e.number e m ordered
accept_ordered e Plug m ordered = Ordered-put e.number e m ordered
accept_ordered e Withheld m ordered = Ordered-put e.number e m ordered
accept_ordered e Bridge m ordered = Ordered-put e.number e (keep (λ s f. survives_bridge e f) m) (Ordered-keep (λ s f. survives_bridge e f) m ordered)

refill_ordered : (es : List Entry) (m : List (ℕ × Entry)) → Ordered m → Ordered (refill_entries es m)
refill_ordered [] m ordered = ordered
refill_ordered (e ∷ es) m ordered = refill_ordered es (put e.number e m) (Ordered-put e.number e m ordered)

log_by : (o : Option Log) → ((g : Log) → o ≡ Some g → Ordered g.entries) → Ordered (unwrap_or o empty_log).entries
log_by None each = none_ordered
log_by (Some g) each = each g refl

log_ordered : (p : Plain) (l : ℕ) → IsOrdered p → Ordered (log_of p l).entries
log_ordered p l ordered = log_by (find l p.logs) (ordered.entries l)

one_log : (p : Plain) (l : ℕ) (g : Log) → IsOrdered p → Ordered g.entries → IsOrdered (with_log p l g)
one_log p l g ordered new = record {
  logs = Ordered-put l g p.logs ordered.logs;
  entries = λ k h found. ⊎_elim
      (λ here. (let same : Some g ≡ Some h = sym here.1 ∙ found in let one : g ≡ h = cc same in subst (λ q. Ordered q.entries) one new))
      (λ there. ordered.entries k h (sym there.1 ∙ found))
      (put_cases k l g p.logs);
}

lost_keys : (ds : List (ℕ × ℕ)) → map.keys_of (lost_logs ds) ≡ map.keys_of ds
lost_keys [] = refl
lost_keys (d ∷ ds) = ap (λ ks. d.0 ∷ ks) (lost_keys ds)

none_lost : (ds : List (ℕ × ℕ)) (l : ℕ) (g : Log) → find l (lost_logs ds) ≡ Some g → Ordered g.entries
unfolding find
none_lost [] l g found = absurd (cc found)
none_lost (d ∷ ds) l g found = by (is_at (nat_cmp l) d.0) found (λ later. none_lost ds l g later)
  where
    by : (b : Bool) → cond b (Some (lost_log d.1)) (find l (lost_logs ds)) ≡ Some g → (find l (lost_logs ds) ≡ Some g → Ordered g.entries) → Ordered g.entries
    by true is later = (let same : lost_log d.1 ≡ g = cc is in subst (λ q. Ordered q.entries) same none_ordered)
    by false is later = later is

pub apply_ordered : (p : Plain) (o : Op) → IsRising o → IsOrdered p → IsOrdered (apply p o)
unfolding apply
apply_ordered p (ops.Format generation epochs) rising ordered = record { logs = subst (IsStrictlySortedBy nat_cmp) (sym (lost_keys epochs)) rising; entries = none_lost epochs }
apply_ordered p (ops.Accept l lng e) rising ordered = one_log p l (accepted (log_of p l) lng e) ordered (accept_ordered e e.what (log_of p l).entries (log_ordered p l ordered))
apply_ordered p (ops.Seal l b) rising ordered = one_log p l (sealed_by (log_of p l) b) ordered (log_ordered p l ordered)
apply_ordered p (ops.Clean l epoch y) rising ordered = let g : Log = log_of p l in one_log p l (cleaned g epoch y) ordered (Ordered-keep (λ s e. survives_clean (max g.trim y.trim) epoch y e) g.entries (log_ordered p l ordered))
apply_ordered p (ops.Trim l t) rising ordered = let g : Log = log_of p l in one_log p l (trimmed_to g t) ordered (keys_ordered (λ s. nat_lt (max g.trim t) s) g.entries (log_ordered p l ordered))
apply_ordered p (ops.Refill l es) rising ordered = one_log p l (refilled_with (log_of p l) es) ordered (refill_ordered es (log_of p l).entries (log_ordered p l ordered))
apply_ordered p (ops.Refilled l) rising ordered = one_log p l (refilled (log_of p l)) ordered (log_ordered p l ordered)
