-- A journal of one segment, as it was before there were others: it represents the plain state that its records add up to.
use Rattle.std.proofs.Common.{◌≡◌, ⊎_elim, refl, ℕ, ◌+◌, ◌≤◌, max, nat_cmp, List, [], ◌∷◌, ◌++◌, length, drop, Option, None, Some, Bool, true, false, cond, sym, ◌∙◌, ap, subst, arith, append_assoc, append-nil}
use Rattle.std.proofs.lemmas.List.{drop-drop, drop_at}
use Rattle.std.specs.Option.{unwrap_or}
use Rattle.std.specs.List.Sorted.{IsStrictlySortedBy}
use Rattle.std.specs.BTreeMap.{is_at}
use Rattle.ld_table.specs.Table.{find, put}
use Rattle.ld_table.proofs.Laws.{put_cases, find-empty, find-keep, find-put_same}
use Rattle.ld_journal.specs.Format.{framed, records, IsJournal}
use Rattle.ld_msg.specs.Register.{record_length}
use Rattle.ld_msg.specs.declared.msg.What.TheVariants.{Rec}
use Rattle.ld_msg.specs.declared.msg.Entry.{Entry}
use Rattle.ld_op.specs.declared.op.Op.{Op}
use Rattle.ld_op.specs.declared.op.Op.TheVariants as ops
use Rattle.ld_op.specs.declared.record.Record.{Record}
use Rattle.ld_op.specs.declared.record.Record.TheVariants.{Now, Before, Mark}
use Rattle.ld_op.specs.Plain.{Plain, Log, unformatted, empty_log, log_of, apply, cleaned, survives_clean, lost_log, lost_logs}
use Rattle.ld_op.specs.Records.{applied, body_length}
use Rattle.ld_op.specs.Bounds.{IsOlder, IsRecord}
use Rattle.ld_op.specs.Bytes.{record_bytes}
use Rattle.ld_op.specs.Cells.{read_plain, placed}
use Rattle.ld_layout.specs.Areas.{IsHeld}
use Rattle.ld_layout.specs.Layout.{Layout, head_end, IsLaid, with_record}
use Rattle.ld_layout.proofs.Payloads.{record_held}
use Rattle.ld_segment.specs.Bases.{IsIndex}
use Rattle.ld_segment.specs.Ops.{bodies_of, place_behind, op_count, placed_record, indexed, applied_all, state_after, AreRecords, IsJournalOf}
use Rattle.ld_segment.specs.Lies.{Slots, IsSound, StandsFor}
use Rattle.ld_segment.proofs.Bodies.{record_long}
use Rattle.ld_segment.proofs.Listed.{passed, index_applied, new_index}
use Rattle.ld_segment.proofs.OneRead.{older_placed, one_read}
use Rattle.ld_segment.proofs.Standing.{one_is}
use Rattle.ld_layout.specs.declared.segment.Growth.{Growth}
use Rattle.ld_layout.specs.declared.segment.Growth.TheVariants.{Still}

-- ---- what is read ----

-- all that stand from a gate on
all_read : (gate : ℕ) (i p : Plain) (vs : List Record) (bytes rest : List ℕ) → AreRecords vs → drop gate bytes ≡ records (bodies_of vs) ++ rest → read_plain bytes i ≡ p → read_plain bytes (indexed gate i vs) ≡ applied_all p vs
all_read gate i p [] bytes rest are stands same = same
all_read gate i p (v ∷ vs) bytes rest are stands same =
    let more : List ℕ = records (bodies_of vs) ++ rest in
    let split : drop gate bytes ≡ framed (record_bytes v) ++ more = stands ∙ append_assoc (framed (record_bytes v)) (records (bodies_of vs)) rest in
    let body : drop (gate + 5) bytes ≡ record_bytes v ++ more = sym (drop-drop 5 gate bytes) ∙ ap (λ l. drop 5 l) split in
    let next : drop (gate + record_length (body_length v)) bytes ≡ more =
    (let step : gate + length (framed (record_bytes v)) ≡ gate + record_length (body_length v) = omega (arith, record_long v) in
    ap (λ k. drop k bytes) (sym step) ∙ sym (drop-drop (length (framed (record_bytes v))) gate bytes) ∙ ap (λ l. drop (length (framed (record_bytes v))) l) split ∙ drop_at (framed (record_bytes v)) more (length (framed (record_bytes v))) refl) in
    all_read (gate + record_length (body_length v)) (applied i (placed_record (gate + 5) v)) (applied p v) vs bytes rest are.1 next (one_read (gate + 5) i p v bytes more are.0 body same)

-- ---- the layout ----

abbrev first_layout : ℕ → ℕ → Plain → Growth → Layout
first_layout ops end index grows = record { ops = ops; end = end; later = None; index = index; grows = grows }

none_other : (k v i a : ℕ) → find i ((k, v) ∷ []) ≡ Some a → i ≡ k
none_other k v i a found = (one_is k v i a found).0

pub first_laid : (ops end : ℕ) (index : Plain) (grows : Growth) → IsLaid (first_layout ops end index grows)
unfolding put IsStrictlySortedBy
first_laid ops end index grows = record {
  live = record {
    ordered = (tt, tt);
    apart = λ i j a b at_i at_j other. absurd (other (none_other 0 (head_end end) i a at_i ∙ sym (none_other 0 (head_end end) j b at_j)));
  };
  segment = tt;
}

first_found : (v : ℕ) → find 0 ((0, v) ∷ []) ≡ Some v
unfolding put
first_found v = find-put_same 0 0 v [] refl

-- a payload stays where the area grows
inside_more : (end more : ℕ) (q : List ℕ) → end ≤ more → IsHeld q ((0, end + 1) ∷ []) → IsHeld q ((0, more + 1) ∷ [])
inside_more end more [] less held = tt
inside_more end more (k ∷ ks) less held =
    let one = one_is 0 (end + 1) held.place held.length held.found in
    record {
      place = 0;
      length = more + 1;
      found = first_found (more + 1);
      within = λ j there. (let w = held.within j there in (omega arith, omega (arith, w.1, one.0, one.1, less)));
    }

abbrev Held : ℕ → Plain → Type 0
Held end p = (l n : ℕ) (g : Log) (e : Entry) (q : List ℕ) → find l p.logs ≡ Some g → find n g.entries ≡ Some e → e.what ≡ Rec q → IsHeld q ((0, end + 1) ∷ [])

-- ---- an op that was spelt otherwise adds no payload ----

lost_none : (ds : List (ℕ × ℕ)) (l : ℕ) (g : Log) → find l (lost_logs ds) ≡ Some g → g.entries ≡ []
unfolding find
lost_none [] l g found = absurd (cc found)
lost_none (d ∷ ds) l g found = by (is_at (nat_cmp l) d.0) found (λ later. lost_none ds l g later)
  where
    by : (b : Bool) → cond b (Some (lost_log d.1)) (find l (lost_logs ds)) ≡ Some g → (find l (lost_logs ds) ≡ Some g → g.entries ≡ []) → g.entries ≡ []
    by true is later = (let same : lost_log d.1 ≡ g = cc is in subst (λ h. h.entries ≡ []) same refl)
    by false is later = later is

in_log : (o : Option Log) (n : ℕ) (e : Entry) → find n (unwrap_or o empty_log).entries ≡ Some e → (g : Log) × ((o ≡ Some g) × (find n g.entries ≡ Some e))
in_log None n e found = absurd (let none : None ≡ Some e = sym (find-empty n) ∙ found in cc none)
in_log (Some g) n e found = (g, (refl, found))

older_held : (end : ℕ) (p : Plain) (o : Op) → IsOlder o → Held end p → Held end (apply p o)
unfolding apply
older_held end p (ops.Format generation epochs) is held l n g e q at_l at_n what =
    absurd (let none : None ≡ Some e = sym (ap (λ m. find n m) (lost_none epochs l g at_l) ∙ find-empty n) ∙ at_n in cc none)
older_held end p (ops.Accept k lng f) is held l n g e q at_l at_n what = absurd is
older_held end p (ops.Seal k b) is held l n g e q at_l at_n what = absurd is
older_held end p (ops.Clean k epoch y) is held l n g e q at_l at_n what = ⊎_elim
    (λ here.
    let same : Some (cleaned (log_of p k) epoch y) ≡ Some g = sym here.1 ∙ at_l in
    let one : cleaned (log_of p k) epoch y ≡ g = cc same in
    let there = subst (λ h. find n h.entries ≡ Some e) (sym one) at_n in
    let trim : ℕ = max (log_of p k).trim y.trim in
    let was = in_log (find k p.logs) n e (passed (λ s f. survives_clean trim epoch y f) n e (find n (log_of p k).entries) (sym (find-keep n (λ s f. survives_clean trim epoch y f) (log_of p k).entries) ∙ there)) in
    held k n was.0 e q was.1.0 was.1.1 what)
    (λ other. held l n g e q (sym other.1 ∙ at_l) at_n what)
    (put_cases l k (cleaned (log_of p k) epoch y) p.logs)
older_held end p (ops.Trim k t) is held l n g e q at_l at_n what = absurd is
older_held end p (ops.Refill k es) is held l n g e q at_l at_n what = absurd is
older_held end p (ops.Refilled k) is held l n g e q at_l at_n what = absurd is

-- ---- each record's payloads stand in the first segment ----

now_held : (end : ℕ) (p : Plain) (o : Op) → Held end p → Held (end + record_length (body_length (Now o))) (apply p (placed (end + 5) o))
unfolding with_record
now_held end p o held = record_held (first_layout 0 end p Still) o (first_laid 0 end p Still) held

more_held : (end more : ℕ) (p : Plain) → end ≤ more → Held end p → Held more p
more_held end more p less held l n g e q at_l at_n what = inside_more end more q less (held l n g e q at_l at_n what)

one_held : (end : ℕ) (p : Plain) (v : Record) → IsRecord v → Held end p → Held (end + record_length (body_length v)) (applied p (placed_record (end + 5) v))
one_held end p (Now o) is held = now_held end p o held
one_held end p (Before o) is held =
    more_held end (end + record_length (body_length (Before o))) (apply p (placed (end + 5) o)) (omega arith)
    (subst (λ x. Held end (apply p x)) (sym (older_placed (end + 5) o is.1)) (older_held end p o is.1 held))
one_held end p Mark is held = more_held end (end + record_length (body_length Mark)) p (omega arith) held

all_held : (end : ℕ) (p : Plain) (vs : List Record) → AreRecords vs → Held end p → Held (end + place_behind vs) (indexed end p vs)
all_held end p [] are held = let none : end ≡ end + 0 = omega arith in subst (λ k. Held k p) none held
all_held end p (v ∷ vs) are held =
    let step : end + record_length (body_length v) + place_behind vs ≡ end + (record_length (body_length v) + place_behind vs) = omega arith in
    subst (λ k. Held k (indexed (end + record_length (body_length v)) (applied p (placed_record (end + 5) v)) vs)) step
    (all_held (end + record_length (body_length v)) (applied p (placed_record (end + 5) v)) vs are.1 (one_held end p v are.0 held))

all_index : (gate : ℕ) (p : Plain) (vs : List Record) → AreRecords vs → IsIndex p → IsIndex (indexed gate p vs)
all_index gate p [] are is = is
all_index gate p (v ∷ vs) are is = all_index (gate + record_length (body_length v)) (applied p (placed_record (gate + 5) v)) vs are.1 (index_applied p (gate + 5) v are.0 is)

none_held : Held 0 unformatted
none_held l n g e q at_l at_n what = absurd (let none : None ≡ Some g = sym (find-empty l) ∙ at_l in cc none)

module _ (vs : List Record) (bytes : List ℕ) (is : IsJournalOf vs bytes) where
  abbrev y : Layout
  y = first_layout (op_count vs) (place_behind vs) (indexed 0 unformatted vs) Still

  -- no slot is there, so it names none
  abbrev z : Slots
  z = record { this = 0; other = 0; is_open = false }

  sound : IsSound y
  sound = record {
    laid = first_laid (op_count vs) (place_behind vs) (indexed 0 unformatted vs) Still;
    held = (let none : 0 + place_behind vs ≡ place_behind vs = omega arith in subst (λ k. Held k (indexed 0 unformatted vs)) none (all_held 0 unformatted vs is.placed.are none_held));
    index = all_index 0 unformatted vs is.placed.are new_index;
    bounded = tt;
  }

  pub before : StandsFor (state_after vs) bytes
  before = record {
    version = is.version;
    layout = y;
    slots = z;
    lies = record {
      records = vs;
      journal = subst (λ l. IsJournal l bytes) (sym (append-nil (bodies_of vs))) is.journal;
      first = is.version;
      placed = is.placed;
      ops_is = refl;
      end_is = refl;
      index_is = (refl, refl);
    };
    sound = sound;
    plain = sym (all_read 0 unformatted unformatted vs bytes (is.journal.gate ∷ is.journal.after) is.placed.are is.journal.bytes_are refl);
  }
