-- Ops keep an index such that a Base can carry it.
use Rattle.std.proofs.Common.{◌≡◌, ⊎_elim, ℕ, zero, suc, ◌+◌, ◌<◌, max, nat_lt, nat_cmp, Less, List, [], ◌∷◌, length, Option, None, Some, Bool, true, false, cond, refl, sym, ap, subst, ◌∙◌, arith}
use Rattle.std.specs.Cmp.{nat_cmp_is}
use Rattle.std.specs.Option.{unwrap_or}
use Rattle.std.specs.List.{AllByRecursion}
use Rattle.std.specs.List.Sorted.{IsStrictlySortedBy}
use Rattle.std.specs.Map.{keys_of}
use Rattle.std.specs.BTreeMap.{is_at}
use Rattle.std.proofs.lemmas.Bool.{cond_both}
use Rattle.ld_table.specs.Table.{find, put, keep, keep_keys, Ordered}
use Rattle.ld_table.specs.Words.{numbers_from}
use Rattle.ld_table.proofs.Laws.{kept, put_cases, find-empty, find-keep, find-keep_keys, find-take_out}
use Rattle.ld_table.proofs.Order.{Ordered-put, Ordered-take_out}
use Rattle.ld_lsn.specs.Number.{epoch_of}
use Rattle.ld_msg.specs.declared.msg.What.{What}
use Rattle.ld_msg.specs.declared.msg.What.TheVariants.{Rec, Hole, Bridge, Plug, Withheld}
use Rattle.ld_msg.specs.declared.msg.Entry.{Entry}
use Rattle.ld_msg.specs.declared.msg.Summary.{Summary}
use Rattle.ld_msg.specs.Bounds.{IsEpoch, IsEntry, IsKept, IsShort, AreKept, AreEntries, last_place}
use Rattle.ld_op.specs.declared.op.Op.{Op}
use Rattle.ld_op.specs.declared.op.Op.TheVariants as ops
use Rattle.ld_op.specs.declared.record.Record.{Record}
use Rattle.ld_op.specs.declared.record.Record.TheVariants.{Now, Before, Mark}
use Rattle.ld_op.specs.Bounds.{IsOp, IsRecord, AreEpochs, RiseFrom}
use Rattle.ld_op.specs.Plain.{Plain, Log, unformatted, empty_log, log_of, with_log, apply, accept_entry, refill_entries, survives_bridge, survives_clean, lng_in, raised_lng, accepted, sealed_by, cleaned, trimmed_to, refilled_with, refilled, lost_log, lost_logs, entry_length}
use Rattle.ld_op.specs.Records.{applied}
use Rattle.ld_op.specs.Rising.{IsRising}
use Rattle.ld_op.specs.Cells.{placed, placed_what, placed_entry, placed_entries}
use Rattle.ld_op.specs.Indexed.{first_place}
use Rattle.ld_op.proofs.Ordered.{apply_ordered}
use Rattle.ld_node_bounds.specs.States.{last_carried}
use Rattle.ld_node_bounds.proofs.Ops.{unformatted_is, apply_is, op_carried}
use Rattle.ld_segment.specs.Bases.{IsListedLog, IsListed, IsIndex}
use Rattle.ld_segment.specs.Ops.{placed_record}

-- ---- places side by side ----

abbrev pub IsRow : List ℕ → Type 0
IsRow q = q ≡ numbers_from (first_place q) (length q)

pub length-numbers_from : (at n : ℕ) → length (numbers_from at n) ≡ n
length-numbers_from at zero = refl
length-numbers_from at (suc n) = ap suc (length-numbers_from (at + 1) n)

row_is : (at n : ℕ) → IsRow (numbers_from at n)
row_is at zero = refl
row_is at (suc n) = ap (λ k. at ∷ numbers_from (at + 1) k) (sym (length-numbers_from (at + 1) n))

abbrev Has : What → Type 0
Has w = (q : List ℕ) → w ≡ Rec q → IsRow q

abbrev AreRows : List (ℕ × Entry) → Type 0
AreRows m = (n : ℕ) (e : Entry) (q : List ℕ) → find n m ≡ Some e → e.what ≡ Rec q → IsRow q

pub passed : {X : Type 0} (P : ℕ → X → Bool) (k : ℕ) (v : X) (o : Option X) → kept P k o ≡ Some v → o ≡ Some v
passed P k v None is = is
passed P k v (Some w) is = by (P k w) is
  where
    by : (b : Bool) → cond b (Some w) None ≡ Some v → Some w ≡ Some v
    by true is = is
    by false is = absurd (cc is)

one_or_none : {X : Type 0} (b : Bool) (v : X) (o : Option X) → cond b o None ≡ Some v → o ≡ Some v
one_or_none true v o is = is
one_or_none false v o is = absurd (cc is)

other_or_none : {X : Type 0} (b : Bool) (v : X) (o : Option X) → cond b None o ≡ Some v → o ≡ Some v
other_or_none true v o is = absurd (cc is)
other_or_none false v o is = is

kept_rows : (P : ℕ → Entry → Bool) (m : List (ℕ × Entry)) → AreRows m → AreRows (keep P m)
kept_rows P m rows n e q found = rows n e q (passed P n e (find n m) (sym (find-keep n P m) ∙ found))

keys_rows : (P : ℕ → Bool) (m : List (ℕ × Entry)) → AreRows m → AreRows (keep_keys P m)
keys_rows P m rows n e q found = rows n e q (one_or_none (P n) e (find n m) (sym (find-keep_keys n P m) ∙ found))

put_rows : (k : ℕ) (e : Entry) (m : List (ℕ × Entry)) → Has e.what → AreRows m → AreRows (put k e m)
put_rows k e m has rows n f q found = ⊎_elim
    (λ here. (let same : Some e ≡ Some f = sym here.1 ∙ found in let one : e ≡ f = cc same in subst (λ g. g.what ≡ Rec q → IsRow q) one (has q)))
    (λ there. rows n f q (sym there.1 ∙ found))
    (put_cases n k e m)

accept_rows : (e : Entry) (w : What) (m : List (ℕ × Entry)) → Has e.what → AreRows m → AreRows (accept_entry e w m)
accept_rows e (Rec p) m has rows = put_rows e.number e m has rows
accept_rows e Hole m has rows = put_rows e.number e m has rows
accept_rows e Plug m has rows = put_rows e.number e m has rows
accept_rows e Withheld m has rows = put_rows e.number e m has rows
accept_rows e Bridge m has rows = put_rows e.number e (keep (λ s f. survives_bridge e f) m) has (kept_rows (λ s f. survives_bridge e f) m rows)

what_row : (at : ℕ) (w : What) → Has (placed_what at w)
what_row at (Rec p) q is = let same : numbers_from (at + 2) (length p) ≡ q = cc is in subst IsRow same (row_is (at + 2) (length p))
what_row at Hole q is = absurd (cc is)
what_row at Bridge q is = absurd (cc is)
what_row at Plug q is = absurd (cc is)
what_row at Withheld q is = absurd (cc is)

entry_row : (at : ℕ) (e : Entry) → Has (placed_entry at e).what
entry_row at e = what_row (at + 13) e.what

refill_rows : (at : ℕ) (es : List Entry) (m : List (ℕ × Entry)) → AreRows m → AreRows (refill_entries (placed_entries at es) m)
refill_rows at [] m rows = rows
refill_rows at (e ∷ es) m rows = refill_rows (at + entry_length e) es (put e.number (placed_entry at e) m) (put_rows e.number (placed_entry at e) m (entry_row at e) rows)

-- ---- last known good places ----

abbrev AreUnderEpochs : List (ℕ × ℕ) → Type 0
AreUnderEpochs m = (epoch lng : ℕ) → find epoch m ≡ Some lng → IsEpoch epoch

put_epochs : (k lng : ℕ) (m : List (ℕ × ℕ)) → IsEpoch k → AreUnderEpochs m → AreUnderEpochs (put k lng m)
put_epochs k lng m is are epoch other found = ⊎_elim
    (λ here. subst IsEpoch (sym here.0) is)
    (λ there. are epoch other (sym there.1 ∙ found))
    (put_cases epoch k lng m)

raised_epochs : (k lng : ℕ) (m : List (ℕ × ℕ)) → IsEpoch k → AreUnderEpochs m → AreUnderEpochs (raised_lng k lng m)
raised_epochs k lng m is are = cond_both (nat_lt (lng_in m k) lng) (put k lng m) m AreUnderEpochs (λ t. put_epochs k lng m is are) (λ t. are)

raised_ordered : (k lng : ℕ) (m : List (ℕ × ℕ)) → Ordered m → Ordered (raised_lng k lng m)
raised_ordered k lng m are = cond_both (nat_lt (lng_in m k) lng) (put k lng m) m Ordered (λ t. Ordered-put k lng m are) (λ t. are)

-- ---- one log ----

none_ordered : (X : Type 0) → Ordered {X = X} []
unfolding IsStrictlySortedBy
none_ordered X = tt

lost_listed : (c : ℕ) → IsListedLog (lost_log c)
lost_listed c = record {
  summaries = none_ordered Summary;
  lngs = none_ordered ℕ;
  epochs = λ epoch lng found. absurd (let none : None ≡ Some lng = sym (find-empty epoch) ∙ found in cc none);
  rows = λ n e q found is. absurd (let none : None ≡ Some e = sym (find-empty n) ∙ found in cc none);
}

log_by : (o : Option Log) → ((g : Log) → o ≡ Some g → IsListedLog g) → IsListedLog (unwrap_or o empty_log)
log_by None each = record {
  summaries = none_ordered Summary;
  lngs = none_ordered ℕ;
  epochs = λ epoch lng found. absurd (let none : None ≡ Some lng = sym (find-empty epoch) ∙ found in cc none);
  rows = λ n e q found is. absurd (let none : None ≡ Some e = sym (find-empty n) ∙ found in cc none);
}
log_by (Some g) each = each g refl

log_listed : (p : Plain) (l : ℕ) → IsListed p → IsListedLog (log_of p l)
log_listed p l listed = log_by (find l p.logs) (listed l)

one_log : (p : Plain) (l : ℕ) (g : Log) → IsListed p → IsListedLog g → IsListed (with_log p l g)
one_log p l g listed new k h found = ⊎_elim
    (λ here. (let same : Some g ≡ Some h = sym here.1 ∙ found in let one : g ≡ h = cc same in subst IsListedLog one new))
    (λ there. listed k h (sym there.1 ∙ found))
    (put_cases k l g p.logs)

none_lost : (ds : List (ℕ × ℕ)) (l : ℕ) (g : Log) → find l (lost_logs ds) ≡ Some g → IsListedLog g
unfolding find
none_lost [] l g found = absurd (cc found)
none_lost (d ∷ ds) l g found = by (is_at (nat_cmp l) d.0) found (λ later. none_lost ds l g later)
  where
    by : (b : Bool) → cond b (Some (lost_log d.1)) (find l (lost_logs ds)) ≡ Some g → (find l (lost_logs ds) ≡ Some g → IsListedLog g) → IsListedLog g
    by true is later = (let same : lost_log d.1 ≡ g = cc is in subst IsListedLog same (lost_listed d.1))
    by false is later = later is

-- an op whose body stands at an offset keeps it
apply_listed : (p : Plain) (at : ℕ) (o : Op) → IsOp o → IsListed p → IsListed (apply p (placed at o))
unfolding apply
apply_listed p at (ops.Format generation epochs) is listed = none_lost epochs
apply_listed p at (ops.Accept l lng e) is listed =
    let g = log_listed p l listed in
    one_log p l (accepted (log_of p l) lng (placed_entry (at + 9) e)) listed (record {
      summaries = g.summaries;
      lngs = raised_ordered (epoch_of e.number) lng (log_of p l).lngs g.lngs;
      epochs = raised_epochs (epoch_of e.number) lng (log_of p l).lngs is.2.epoch g.epochs;
      rows = accept_rows (placed_entry (at + 9) e) (placed_entry (at + 9) e).what (log_of p l).entries (entry_row (at + 9) e) g.rows;
    })
apply_listed p at (ops.Seal l b) is listed = let g = log_listed p l listed in one_log p l (sealed_by (log_of p l) b) listed (record { summaries = g.summaries; lngs = g.lngs; epochs = g.epochs; rows = g.rows })
apply_listed p at (ops.Clean l epoch y) is listed =
    let g = log_listed p l listed in
    let h : Log = log_of p l in
    one_log p l (cleaned h epoch y) listed (record {
      summaries = Ordered-put epoch y h.summaries g.summaries;
      lngs = Ordered-take_out epoch h.lngs g.lngs;
      epochs = λ k lng found. g.epochs k lng (other_or_none _ lng (find k h.lngs) (sym (find-take_out k epoch h.lngs) ∙ found));
      rows = kept_rows (λ s e. survives_clean (max h.trim y.trim) epoch y e) h.entries g.rows;
    })
apply_listed p at (ops.Trim l t) is listed =
    let g = log_listed p l listed in
    let h : Log = log_of p l in
    one_log p l (trimmed_to h t) listed (record { summaries = g.summaries; lngs = g.lngs; epochs = g.epochs; rows = keys_rows (λ s. nat_lt (max h.trim t) s) h.entries g.rows })
apply_listed p at (ops.Refill l es) is listed =
    let g = log_listed p l listed in
    one_log p l (refilled_with (log_of p l) (placed_entries (at + 7) es)) listed (record { summaries = g.summaries; lngs = g.lngs; epochs = g.epochs; rows = refill_rows (at + 7) es (log_of p l).entries g.rows })
apply_listed p at (ops.Refilled l) is listed = let g = log_listed p l listed in one_log p l (refilled (log_of p l)) listed (record { summaries = g.summaries; lngs = g.lngs; epochs = g.epochs; rows = g.rows })

-- ---- an op with places is an op ----

short_too : (at : ℕ) (w : What) → IsShort w → IsShort (placed_what at w)
short_too at (Rec p) short = omega (arith, length-numbers_from (at + 2) (length p), short)
short_too at Hole short = tt
short_too at Bridge short = tt
short_too at Plug short = tt
short_too at Withheld short = tt

last_too : (at : ℕ) (w : What) → last_place (placed_what at w) ≡ last_place w
last_too at (Rec p) = refl
last_too at Hole = refl
last_too at Bridge = refl
last_too at Plug = refl
last_too at Withheld = refl

kept_too : (at : ℕ) (w : What) → IsKept w → IsKept (placed_what at w)
kept_too at (Rec p) is = tt
kept_too at Hole is = tt
kept_too at Bridge is = tt
kept_too at Plug is = tt
kept_too at Withheld is = is

entry_too : (at : ℕ) (e : Entry) → IsEntry e → IsEntry (placed_entry at e)
entry_too at e is = record {
  epoch = is.epoch;
  from_one = is.from_one;
  place = omega (arith, is.place, last_too (at + 13) e.what);
  ballot = is.ballot;
  ballot_most = is.ballot_most;
  short = short_too (at + 13) e.what is.short;
}

length-placed : (at : ℕ) (es : List Entry) → length (placed_entries at es) ≡ length es
length-placed at [] = refl
length-placed at (e ∷ es) = ap suc (length-placed (at + entry_length e) es)

entries_too : (at : ℕ) (es : List Entry) → AreEntries es → AreEntries (placed_entries at es)
entries_too at [] are = tt
entries_too at (e ∷ es) are = (entry_too at e are.0, entries_too (at + entry_length e) es are.1)

rise_too : (from at : ℕ) (es : List Entry) → RiseFrom from es → RiseFrom from (placed_entries at es)
rise_too from at [] rise = tt
rise_too from at (e ∷ es) rise = (rise.0, rise_too (e.number + 1) (at + entry_length e) es rise.1)

all_kept : (at : ℕ) (es : List Entry) → AreKept es → AreKept (placed_entries at es)
all_kept at [] are = tt
all_kept at (e ∷ es) are = (kept_too (at + 13) e.what are.0, all_kept (at + entry_length e) es are.1)

pub placed_is : (at : ℕ) (o : Op) → IsOp o → IsOp (placed at o)
placed_is at (ops.Format generation epochs) is = is
placed_is at (ops.Accept l lng e) is = (is.0, is.1, entry_too (at + 9) e is.2, kept_too (at + 9 + 13) e.what is.3)
placed_is at (ops.Seal l b) is = is
placed_is at (ops.Clean l epoch y) is = is
placed_is at (ops.Trim l t) is = is
placed_is at (ops.Refill l es) is = (
  is.0,
  omega (arith, length-placed (at + 7) es, is.1),
  omega (arith, length-placed (at + 7) es, is.2),
  entries_too (at + 7) es is.3,
  rise_too 0 (at + 7) es is.4,
  all_kept (at + 7) es is.5,
)
placed_is at (ops.Refilled l) is = is

-- ---- formats rise ----

all_above : (x from : ℕ) (ds : List (ℕ × ℕ)) → x < from → AreEpochs from ds → AllByRecursion (λ y. nat_cmp x y ≡ Less) (keys_of ds)
all_above x from [] below are = tt
all_above x from (d ∷ ds) below are = (sym (nat_cmp_is x d.0 Less (omega (arith, below, are.0))), all_above x (d.0 + 1) ds (omega (arith, below, are.0)) are.4)

pub epochs_rise : (from : ℕ) (ds : List (ℕ × ℕ)) → AreEpochs from ds → Ordered ds
unfolding IsStrictlySortedBy
epochs_rise from [] are = tt
epochs_rise from (d ∷ ds) are = (all_above d.0 (d.0 + 1) ds (omega arith) are.4, epochs_rise (d.0 + 1) ds are.4)

rising_too : (at : ℕ) (o : Op) → IsOp o → IsRising (placed at o)
rising_too at (ops.Format generation epochs) is = epochs_rise 1 epochs is.2
rising_too at (ops.Accept l lng e) is = tt
rising_too at (ops.Seal l b) is = tt
rising_too at (ops.Clean l epoch y) is = tt
rising_too at (ops.Trim l t) is = tt
rising_too at (ops.Refill l es) is = tt
rising_too at (ops.Refilled l) is = tt

-- ---- all of an index ----

pub index_kept : (p : Plain) (at : ℕ) (o : Op) → IsOp o → IsIndex p → IsIndex (apply p (placed at o))
index_kept p at o is index = record {
  ordered = apply_ordered p (placed at o) (rising_too at o is) index.ordered;
  well = apply_is last_carried p (placed at o) (omega arith) index.well (op_carried (placed at o) (placed_is at o is));
  listed = apply_listed p at o is index.listed;
}

pub index_applied : (p : Plain) (at : ℕ) (v : Record) → IsRecord v → IsIndex p → IsIndex (applied p (placed_record at v))
index_applied p at (Now o) is index = index_kept p at o is index
index_applied p at (Before o) is index = index_kept p at o is.0 index
index_applied p at Mark is index = index

pub new_index : IsIndex unformatted
new_index = record {
  ordered = record { logs = none_ordered Log; entries = λ l g found. absurd (let none : None ≡ Some g = sym (find-empty l) ∙ found in cc none) };
  well = unformatted_is last_carried;
  listed = λ l g found. absurd (let none : None ≡ Some g = sym (find-empty l) ∙ found in cc none);
}
