-- The plan of a record has the row's calls, and fits where the op may be kept.
use Rattle.std.proofs.Common.{◌≡◌, ◌⊎◌, inl, ⊎_elim, refl, ℕ, ◌+◌, ◌≤◌, List, [], ◌∷◌, ◌++◌, length, Option, None, Some, Bool, true, false, cond, sym, ◌∙◌, ap, subst, arith, length-append, append_assoc}
use Rattle.std.proofs.lemmas.Bool.{or_parts, ltb-false}
use Rattle.ld_disk.specs.Images.{Torn}
use Rattle.ld_disk.proofs.Overwrites.{torn_same}
use Rattle.ld_journal.specs.Format.{behind, append_calls}
use Rattle.ld_msg.specs.Register.{record_length, journal_limit}
use Rattle.ld_op.specs.declared.op.Op.{Op}
use Rattle.ld_op.specs.declared.record.Record.{Record}
use Rattle.ld_op.specs.declared.record.Record.TheVariants.{Now}
use Rattle.ld_op.specs.declared.version.Version.{Version}
use Rattle.ld_op.specs.Records.{body_length}
use Rattle.ld_op.specs.Plain.{op_length}
use Rattle.ld_op.specs.Bytes.{op_bytes, record_bytes}
use Rattle.ld_layout.specs.Layout.{Layout, Segment, kind_of, switches, switch_calls, is_full_first, is_full_later, base_length, head_end, switched_to, passes_in, passes_limit, IfSegment}
use Rattle.ld_segment.specs.Left.{IsRecordTorn}
use Rattle.ld_segment.specs.Slots.{says_bytes, slot_length}
use Rattle.ld_segment.specs.Lies.{Slots, ArePlacedAt, IsIndexed, LiesAs, IsSound, MayKeep, IfBounded, written, segment_for, base_record, first_slots, switch_row, switched_bytes, with_body, IsAnySwitchTorn, calls_by, row_of, gate_in, IsTornBy, IsRowTorn, made_by, row_made, switching}
use Rattle.ld_segment.specs.Plans.{planned_calls, planned_count, planned_end, planned_made, IsPlanTorn, IsBeforeTorn, made_before, before_by, calls_before, end_before, count_before, planned_by, planned}
use Rattle.ld_segment.proofs.Bodies.{record_long}
use Rattle.ld_segment.proofs.CurrentSlots.{says_long}
use Rattle.ld_segment.proofs.NewSegments.{base_record_long}
use Rattle.ld_segment.proofs.Sound.{Passes, passes_switch, behind_head}
use Rattle.ld_segment.proofs.Switched.{first_place}
use Rattle.ld_segment.proofs.Limits.{not_past}

module _ (kind : ℕ) (y : Layout) (z : Slots) (body : List ℕ) (n : ℕ) where
  abbrev g : Segment
  g = segment_for y n

  calls_is : (t : Bool) → planned_calls (planned_by kind y z body n t) ≡ calls_by kind y z body n t
  calls_is false = refl
  calls_is true = by y.later
    where
      by : (a : Option Segment) → calls_before (before_by kind y z g a) ++ append_calls g.end body ≡ switch_row kind y z g a ++ append_calls g.end body
      by None = refl
      by (Some s) = refl

  torn_is : (b c : List ℕ) (t : Bool) → IsPlanTorn (planned_by kind y z body n t) b c → IsTornBy kind y z body b c n t
  torn_is b c false torn = ⊎_elim (λ same. inl (subst (λ l. Torn (gate_in y y.later + 1) (length (behind body)) b l) (sym same) (torn_same (gate_in y y.later + 1) (length (behind body)) b))) (λ record_torn. record_torn) torn
  torn_is b c true torn = by y.later torn
    where
      by : (a : Option Segment) → IsBeforeTorn (before_by kind y z g a) b c ⊎ IsRecordTorn g.end body (made_before (before_by kind y z g a) b) c → IsAnySwitchTorn kind y z g a b c ⊎ IsRecordTorn g.end body (switched_bytes kind y z g a b) c
      by None torn = torn
      by (Some s) torn = torn

  made_is : (b : List ℕ) (t : Bool) → planned_made (planned_by kind y z body n t) b ≡ made_by kind y z body b n t
  made_is b false = refl
  made_is b true = by y.later
    where
      by : (a : Option Segment) → with_body g.end body (made_before (before_by kind y z g a) b) ≡ with_body g.end body (switched_bytes kind y z g a b)
      by None = refl
      by (Some s) = refl

  count_is : (t : Bool) → planned_count (planned_by kind y z body n t) ≡ cond t (switch_calls y.later) 0 + 4
  count_is false = refl
  count_is true = by y.later
    where
      by : (a : Option Segment) → count_before (before_by kind y z g a) + 4 ≡ switch_calls a + 4
      by None = refl
      by (Some s) = refl

-- ---- of a record's body ----

pub row_calls : (kind : ℕ) (y : Layout) (z : Slots) (body : List ℕ) → planned_calls (planned kind y z body) ≡ row_of kind y z body
row_calls kind y z body = calls_is kind y z body (length body) (switches y (length body))

pub row_torn : (kind : ℕ) (y : Layout) (z : Slots) (body b c : List ℕ) → IsPlanTorn (planned kind y z body) b c → IsRowTorn kind y z body b c
row_torn kind y z body b c torn = torn_is kind y z body (length body) b c (switches y (length body)) torn

pub row_is_made : (kind : ℕ) (y : Layout) (z : Slots) (body b : List ℕ) → planned_made (planned kind y z body) b ≡ row_made kind y z body b
row_is_made kind y z body b = made_is kind y z body (length body) b (switches y (length body))

pub stay_is : (kind : ℕ) (y : Layout) (z : Slots) (body : List ℕ) → switches y (length body) ≡ false → planned kind y z body ≡ planned_by kind y z body (length body) false
stay_is kind y z body goes = ap (planned_by kind y z body (length body)) goes

pub switch_is : (kind : ℕ) (y : Layout) (z : Slots) (body : List ℕ) (a : Option Segment) → switches y (length body) ≡ true → y.later ≡ a
    → planned kind y z body ≡ record { before = before_by kind y z (segment_for y (length body)) a; gate = (segment_for y (length body)).end; body = body }
switch_is kind y z body a is e =
    ap (planned_by kind y z body (length body)) is ∙ (λ i. record { before = before_by kind y z (segment_for y (length body)) (e i); gate = (segment_for y (length body)).end; body = body })

pub op_count_is : (y : Layout) (z : Slots) (o : Op) → planned_count (planned (kind_of y) y z (op_bytes o)) ≡ switching y o + 4
op_count_is y z o = ap (λ m. planned_count (planned_by (kind_of y) y z (op_bytes o) m (switches y m))) (record_long (Now o)) ∙ count_is (kind_of y) y z (op_bytes o) (op_length o) (switches y (op_length o))

-- ---- within all limits ----

slots_long : (kind : ℕ) (y : Layout) (g : Segment) → length (first_slots kind y g) ≡ 40 + base_length y.index g.areas
slots_long kind y g =
    omega (arith, length-append (says_bytes 1 g.place) (0 ∷ (says_bytes 0 0 ++ base_record kind y g)), length-append (says_bytes 0 0) (base_record kind y g), says_long 1 g.place, says_long 0 0, base_record_long kind y g)

other_ends : (end : ℕ) (z : Slots) → ArePlacedAt (end + 15) z → z.other + slot_length ≤ end + 49
other_ends end z at = ⊎_elim (λ p. omega (arith, p.1)) (λ p. omega (arith, p.1)) at

-- a record behind a switch that passes no limit, or in the first segment where that has room for it; in a later one there is
module _ (kind : ℕ) (version : Version) (y : Layout) (z : Slots) (b : List ℕ) (v : Record) (lies : LiesAs version y z b) (sound : IsSound y)
    (room : switches y (body_length v) ≡ false → y.later ≡ None → y.end + 1 + record_length (body_length v) ≤ journal_limit) (passes : switches y (body_length v) ≡ true → Passes y (segment_for y (body_length v))) where
  abbrev n : ℕ
  n = body_length v

  abbrev body : List ℕ
  body = record_bytes v

  end_here : switches y n ≡ false → planned_end (planned_by kind y z body n false) ≤ journal_limit
  unfolding switches
  end_here goes = omega (arith, by y.later refl not_full sound.laid.segment sound.bounded)
    where
      not_full : is_full_later n y.later ≡ false
      not_full = (or_parts (is_full_first y y.later) (is_full_later n y.later) goes).1

      by : (a : Option Segment) → y.later ≡ a → is_full_later n a ≡ false → IfSegment a → IfBounded y.end a → gate_in y a + length body + 6 ≤ journal_limit
      by None e full segment bounded = omega (arith, room goes e, record_long v)
      by (Some g) e full segment bounded = omega (arith, not_past g v full, bounded.limit, record_long v)

  end_switched : switches y n ≡ true → planned_end (planned_by kind y z body n true) ≤ journal_limit
  end_switched is =
      let g : Segment = segment_for y n in
      let far = behind_head y (record_length n) (record_length n) sound.laid (omega arith) in
      let before : end_before (before_by kind y z g y.later) ≤ journal_limit = by y.later refl (passes is).limit far in
      omega (arith, before, (passes is).limit, record_long v)
    where
      by : (a : Option Segment) → y.later ≡ a → (segment_for y n).limit ≤ journal_limit → head_end y.end ≤ (segment_for y n).place → end_before (before_by kind y z (segment_for y n) a) ≤ journal_limit
      by None e limit far =
          let g : Segment = segment_for y n in
          omega (arith, limit, far, first_place y (record_length n) (record_length n) e, slots_long kind y g)
      by (Some s) e limit far =
          let g : Segment = segment_for y n in
          let later = subst (λ t. IsIndexed lies.first version y z t lies.records b) e lies.index_is in
          omega (arith, limit, far, base_record_long kind y g, says_long g.number g.place, other_ends y.end z later.at)

  end_by : (t : Bool) → switches y n ≡ t → planned_end (planned_by kind y z body n t) ≤ journal_limit
  end_by true is = end_switched is
  end_by false goes = end_here goes

  -- all that is written lies within the limit of journals
  pub plan_fits : planned_end (planned kind y z body) ≤ journal_limit
  plan_fits = subst (λ m. planned_end (planned_by kind y z body m (switches y m)) ≤ journal_limit) (sym (record_long v)) (end_by (switches y n) refl)

op_room : (y : Layout) (o : Op) → passes_limit y o ≡ false → switches y (op_length o) ≡ false → y.later ≡ None → y.end + 1 + record_length (op_length o) ≤ journal_limit
unfolding passes_limit
op_room y o fits goes e =
    let n : ℕ = op_length o in
    let here : passes_in y o y.later ≡ false = sym (ap (λ t. passes_in y o (cond t (switched_to y (record_length n) (record_length n)) y).later) goes) ∙ fits in
    omega (arith, ltb-false journal_limit (y.end + 1 + record_length n) (sym (ap (passes_in y o) e) ∙ here))

pub op_fits : (y : Layout) (z : Slots) (b : List ℕ) (o : Op) → LiesAs (written y) y z b → IsSound y → MayKeep y o → planned_end (planned (kind_of y) y z (op_bytes o)) ≤ journal_limit
op_fits y z b o lies sound may = plan_fits (kind_of y) (written y) y z b (Now o) lies sound (op_room y o may.fits) (λ is. passes_switch y o is may.fits)

-- ---- a Base's record ----

pub base_put : (old gate size based all size_bytes base : List ℕ) → gate ≡ old ++ 1 ∷ [] → size ≡ gate ++ size_bytes → based ≡ size ++ base → all ≡ based ++ 0 ∷ [] → all ≡ old ++ ((1 ∷ (size_bytes ++ base)) ++ 0 ∷ [])
base_put old gate size based all size_bytes base gate_is size_is based_is all_is =
    all_is ∙ ap (λ l. l ++ 0 ∷ []) (based_is ∙ ap (λ l. l ++ base) (size_is ∙ ap (λ l. l ++ size_bytes) gate_is))
    ∙ append_assoc ((old ++ 1 ∷ []) ++ size_bytes) base (0 ∷ [])
    ∙ append_assoc (old ++ 1 ∷ []) size_bytes (base ++ 0 ∷ [])
    ∙ append_assoc old (1 ∷ []) (size_bytes ++ (base ++ 0 ∷ []))
    ∙ ap (λ l. old ++ 1 ∷ l) (sym (append_assoc size_bytes base (0 ∷ [])))
