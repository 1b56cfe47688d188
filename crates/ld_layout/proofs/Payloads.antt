-- After each record all payloads stand in areas of before, or in the record.
use Rattle.std.proofs.Common.{◌≡◌, ◌⊎◌, inl, inr, refl, ⊎_elim, ℕ, zero, suc, ◌+◌, max, nat_lt, nat_cmp, ◌≤◌, ◌<◌, List, [], ◌∷◌, length, Option, None, Some, Bool, true, false, ◌||◌, ◌==◌, cond, sym, ap, subst, ◌∙◌, arith}
use Rattle.std.specs.Option.{unwrap_or}
use Rattle.std.specs.BTreeMap.{is_at}
use Rattle.std.proofs.lemmas.Bool.Decides.{nat_tests}
use Rattle.ld_table.specs.Table.{find, put, keep, keep_keys}
use Rattle.ld_table.specs.Words.{is_in, numbers_from}
use Rattle.ld_table.proofs.Laws.{kept, put_cases, find-empty, find-keep, find-keep_keys}
use Rattle.ld_msg.specs.declared.msg.What.{What}
use Rattle.ld_msg.specs.declared.msg.What.TheVariants.{Rec, Hole, Bridge, Plug, Withheld}
use Rattle.ld_msg.specs.declared.msg.Entry.{Entry}
use Rattle.ld_op.specs.declared.op.Op.{Op}
use Rattle.ld_op.specs.declared.op.Op.TheVariants as ops
use Rattle.ld_op.specs.Plain.{Plain, Log, empty_log, log_of, with_log, apply, accept_entry, refill_entries, survives_bridge, survives_clean, accepted, sealed_by, cleaned, trimmed_to, refilled_with, refilled, lost_log, lost_logs, op_length, entry_length, entries_length, what_length}
use Rattle.ld_op.specs.Cells.{placed, placed_what, placed_entry, placed_entries}
use Rattle.ld_layout.specs.Areas.{IsHeld}
use Rattle.ld_layout.specs.Layout.{Layout, closed_areas, gate_of, with_record, IsLaid, AreHeld}
use Rattle.ld_layout.proofs.Grows.{record_keeps, record_holds}

-- ---- places in a row ----

either : (a b : Bool) → (a || b) ≡ true → (a ≡ true) ⊎ (b ≡ true)
either true b is = inl refl
either false b is = inr is

same_number : (x y : ℕ) → (x == y) ≡ true → x ≡ y
same_number x y is = grind (arith, nat_tests)

in_row : (at n k : ℕ) → is_in k (numbers_from at n) ≡ true → (at ≤ k) × (k < at + n)
in_row at zero k is = absurd (cc is)
in_row at (suc n) k is = ⊎_elim
    (λ here. (let same = same_number at k here in (omega (arith, same), omega (arith, same))))
    (λ there. (let w = in_row (at + 1) n k there in (omega (arith, w.0), omega (arith, w.1))))
    (either (at == k) (is_in k (numbers_from (at + 1) n)) is)

module _ (areas : List (ℕ × ℕ)) where
  -- ---- one log's entries ----

  abbrev Has : What → Type 0
  Has w = (p : List ℕ) → w ≡ Rec p → IsHeld p areas

  abbrev Held : List (ℕ × Entry) → Type 0
  Held m = (n : ℕ) (e : Entry) → find n m ≡ Some e → Has e.what

  passed : (P : ℕ → Entry → Bool) (k : ℕ) (v : Entry) (o : Option Entry) → kept P k o ≡ Some v → o ≡ Some v
  passed P k v None is = is
  passed P k v (Some w) is = by (P k w) is
    where
      by : (b : Bool) → cond b (Some w) None ≡ Some v → Some w ≡ Some v
      by true is = is
      by false is = absurd (cc is)

  kept_held : (P : ℕ → Entry → Bool) (m : List (ℕ × Entry)) → Held m → Held (keep P m)
  kept_held P m held n e found = held n e (passed P n e (find n m) (sym (find-keep n P m) ∙ found))

  keys_by : (b : Bool) (v : Entry) (o : Option Entry) → cond b o None ≡ Some v → o ≡ Some v
  keys_by true v o is = is
  keys_by false v o is = absurd (cc is)

  keys_held : (P : ℕ → Bool) (m : List (ℕ × Entry)) → Held m → Held (keep_keys P m)
  keys_held P m held n e found = held n e (keys_by (P n) e (find n m) (sym (find-keep_keys n P m) ∙ found))

  put_held : (k : ℕ) (e : Entry) (m : List (ℕ × Entry)) → Has e.what → Held m → Held (put k e m)
  put_held k e m has held n f found = ⊎_elim
      (λ here. (let same : Some e ≡ Some f = sym here.1 ∙ found in let one : e ≡ f = cc same in subst (λ g. Has g.what) one has))
      (λ there. held n f (sym there.1 ∙ found))
      (put_cases n k e m)

  accept_held : (e : Entry) (w : What) (m : List (ℕ × Entry)) → Has e.what → Held m → Held (accept_entry e w m)
  accept_held e (Rec p) m has held = put_held e.number e m has held
  accept_held e Hole m has held = put_held e.number e m has held
  accept_held e Plug m has held = put_held e.number e m has held
  accept_held e Withheld m has held = put_held e.number e m has held
  accept_held e Bridge m has held = put_held e.number e (keep (λ s f. survives_bridge e f) m) has (kept_held (λ s f. survives_bridge e f) m held)

  -- payloads that stand from one place to another
  abbrev Row : ℕ → ℕ → Type 0
  Row from to = (p : List ℕ) → ((k : ℕ) → is_in k p ≡ true → (from ≤ k) × (k < to)) → IsHeld p areas

  what_held : (at to : ℕ) (w : What) → Row at to → at + what_length w ≤ to → Has (placed_what at w)
  what_held at to (Rec q) row long p is =
      let same : numbers_from (at + 2) (length q) ≡ p = cc is in
      row p (λ k there. (let w = in_row (at + 2) (length q) k (ap (is_in k) same ∙ there) in (omega (arith, w.0), omega (arith, w.1, long))))
  what_held at to Hole row long p is = absurd (cc is)
  what_held at to Bridge row long p is = absurd (cc is)
  what_held at to Plug row long p is = absurd (cc is)
  what_held at to Withheld row long p is = absurd (cc is)

  narrower : (from to one two : ℕ) → Row from to → from ≤ one → two ≤ to → Row one two
  narrower from to one two row least most p within = row p (λ k there. (let w = within k there in (omega (arith, w.0, least), omega (arith, w.1, most))))

  entry_held : (at to : ℕ) (e : Entry) → Row at to → at + entry_length e ≤ to → Has (placed_entry at e).what
  entry_held at to e row long = what_held (at + 13) to e.what (narrower at to (at + 13) to row (omega arith) (omega arith)) (omega (arith, long))

  refill_held : (at to : ℕ) (es : List Entry) (m : List (ℕ × Entry)) → Row at to → at + entries_length es ≤ to → Held m → Held (refill_entries (placed_entries at es) m)
  refill_held at to [] m row long held = held
  refill_held at to (e ∷ es) m row long held =
      refill_held (at + entry_length e) to es (put e.number (placed_entry at e) m) (narrower at to (at + entry_length e) to row (omega arith) (omega arith)) (omega (arith, long))
      (put_held e.number (placed_entry at e) m (entry_held at to e row (omega (arith, long))) held)

  -- ---- all logs ----

  abbrev AllHeld : Plain → Type 0
  AllHeld p = (l : ℕ) (g : Log) → find l p.logs ≡ Some g → Held g.entries

  none_held : Held []
  none_held n e found = absurd (let none : None ≡ Some e = sym (find-empty n) ∙ found in cc none)

  log_by : (o : Option Log) → ((g : Log) → o ≡ Some g → Held g.entries) → Held (unwrap_or o empty_log).entries
  log_by None held = none_held
  log_by (Some g) held = held g refl

  log_held : (p : Plain) (l : ℕ) → AllHeld p → Held (log_of p l).entries
  log_held p l held = log_by (find l p.logs) (held l)

  one_log : (p : Plain) (l : ℕ) (g : Log) → AllHeld p → Held g.entries → AllHeld (with_log p l g)
  one_log p l g held new k h found = ⊎_elim
      (λ here. (let same : Some g ≡ Some h = sym here.1 ∙ found in let one : g ≡ h = cc same in subst (λ q. Held q.entries) one new))
      (λ there. held k h (sym there.1 ∙ found))
      (put_cases k l g p.logs)

  none_lost : (ds : List (ℕ × ℕ)) (l : ℕ) (g : Log) → find l (lost_logs ds) ≡ Some g → Held g.entries
  unfolding find
  none_lost [] l g found = absurd (cc found)
  none_lost (d ∷ ds) l g found = by (is_at (nat_cmp l) d.0) found (λ later. none_lost ds l g later)
    where
      by : (b : Bool) → cond b (Some (lost_log d.1)) (find l (lost_logs ds)) ≡ Some g → (find l (lost_logs ds) ≡ Some g → Held g.entries) → Held g.entries
      by true is later = (let same : lost_log d.1 ≡ g = cc is in subst (λ q. Held q.entries) same none_held)
      by false is later = later is

  op_held : (p : Plain) (at to : ℕ) (o : Op) → Row at to → at + op_length o ≤ to → AllHeld p → AllHeld (apply p (placed at o))
  unfolding apply op_length
  op_held p at to (ops.Format generation epochs) row long held = none_lost epochs
  op_held p at to (ops.Accept l lng e) row long held =
      let f : Entry = placed_entry (at + 9) e in
      one_log p l (accepted (log_of p l) lng f) held (accept_held f f.what (log_of p l).entries (entry_held (at + 9) to e (narrower at to (at + 9) to row (omega arith) (omega arith)) (omega (arith, long))) (log_held p l held))
  op_held p at to (ops.Seal l b) row long held = one_log p l (sealed_by (log_of p l) b) held (log_held p l held)
  op_held p at to (ops.Clean l epoch s) row long held =
      let g : Log = log_of p l in one_log p l (cleaned g epoch s) held (kept_held (λ k e. survives_clean (max g.trim s.trim) epoch s e) g.entries (log_held p l held))
  op_held p at to (ops.Trim l t) row long held =
      let g : Log = log_of p l in one_log p l (trimmed_to g t) held (keys_held (λ k. nat_lt (max g.trim t) k) g.entries (log_held p l held))
  op_held p at to (ops.Refill l es) row long held =
      one_log p l (refilled_with (log_of p l) (placed_entries (at + 7) es)) held (refill_held (at + 7) to es (log_of p l).entries (narrower at to (at + 7) to row (omega arith) (omega arith)) (omega (arith, long)) (log_held p l held))
  op_held p at to (ops.Refilled l) row long held = one_log p l (refilled (log_of p l)) held (log_held p l held)

pub record_held : (y : Layout) (o : Op) → IsLaid y → AreHeld y → AreHeld (with_record y o)
unfolding with_record
record_held y o laid held l n g e p at_l at_n is =
    let areas : List (ℕ × ℕ) = closed_areas (with_record y o) (with_record y o).later in
    let at : ℕ = gate_of y y.later + 5 in
    let row : Row areas at (at + op_length o) = (λ q within. record_holds y o q laid (λ k there. (let w = within k there in (omega (arith, w.0), omega (arith, w.1))))) in
    op_held areas y.index at (at + op_length o) o row (omega arith) (λ k h found m f at_m q same. record_keeps y o q laid (held k m h f q found at_m same)) l g at_l n e at_n p is
