-- A row of records that a write is to come behind, and how the bytes lie with the record or without it.
use Rattle.std.proofs.Common.{◌≡◌, inl, inr, ⊎_elim, refl, ℕ, ◌+◌, ◌≤◌, List, [], ◌∷◌, ◌++◌, length, drop, Option, None, Some, Bool, true, false, sym, ◌∙◌, ap, subst, arith, length-append, append-nil, length-drop}
use Rattle.std.proofs.lemmas.List.{drop-drop, drop_at}
use Rattle.ld_journal.specs.Format.{framed, records, IsJournal}
use Rattle.ld_journal.proofs.Records.{records-push, length-records-push}
use Rattle.ld_msg.specs.Register.{record_length}
use Rattle.ld_op.specs.declared.record.Record.{Record}
use Rattle.ld_op.specs.declared.version.Version.{Version}
use Rattle.ld_op.specs.declared.version.Version.TheVariants.{Blank}
use Rattle.ld_op.specs.Plain.{Plain, unformatted}
use Rattle.ld_op.specs.Records.{applied, version_after, body_length}
use Rattle.ld_op.specs.Bounds.{IsRecord}
use Rattle.ld_op.specs.Bytes.{record_bytes}
use Rattle.ld_layout.specs.Areas.{AreLive}
use Rattle.ld_layout.specs.Layout.{Layout, Segment, base_length, least_for, room_for, live_areas, IsSegment, IfSegment}
use Rattle.ld_layout.specs.Base.{base_bytes}
use Rattle.ld_layout.proofs.Lengths.{base_long}
use Rattle.ld_segment.specs.Stays.{StaysOutside}
use Rattle.ld_segment.specs.Slots.{head_bytes, slot_length, Tells}
use Rattle.ld_segment.specs.Ops.{bodies_of, place_behind, op_count, placed_record, ArePlaced}
use Rattle.ld_segment.specs.Lies.{Slots, ArePlacedAt, IsOther, first_length, behind_base, IsCurrent, IsIndexed, LiesAs, head_of, gate_in}
use Rattle.ld_segment.proofs.Rows.{row_stays}
use Rattle.ld_segment.proofs.Choices.{slot_stays, shut_stays, lesser_stays}
use Rattle.ld_segment.proofs.Bodies.{counts_as, bodies-push, placed-push, place-push, count-push, indexed-push, places}
use Rattle.ld_segment.proofs.Standing.{head_before}

-- the row behind which the next record is written
abbrev pub row_at : Option Segment → ℕ
row_at None = 0
row_at (Some g) = g.place

abbrev pub row_bodies : (opening version : Version) (y : Layout) (z : Slots) (a : Option Segment) (rs : List Record) (b : List ℕ) → IsIndexed opening version y z a rs b → List (List ℕ)
row_bodies opening version y z None rs b is = bodies_of rs
row_bodies opening version y z (Some g) rs b is = base_bytes is.current.kind is.current.base g.areas ∷ bodies_of is.current.records

-- a layout with a record more
abbrev pub more : Layout → Option Segment → ℕ → Record → Layout
more y None limit v = record { ops = y.ops + counts_as v; end = y.end + record_length (body_length v); later = None; index = applied y.index (placed_record (y.end + 5) v); grows = y.grows }
more y (Some g) limit v = record {
  ops = y.ops;
  end = y.end;
  later = Some (record g { ops = g.ops + counts_as v; end = g.end + record_length (body_length v); limit = limit });
  index = applied y.index (placed_record (g.end + 5) v);
  grows = y.grows;
}

-- the limit that the segment has then, however long its Base is
abbrev pub HasLimit : Option Segment → ℕ → Record → Type 0
HasLimit None limit v = Unit {0}
HasLimit (Some g) limit v = (base : ℕ) (rs : List Record) → g.end + 1 ≡ g.place + record_length base + 1 + place_behind rs → g.limit ≡ g.place + record_length base + 1 + room_for (least_for g.grows base) (first_length rs)
    → limit ≡ g.place + record_length base + 1 + room_for (least_for g.grows base) (first_length (rs ++ v ∷ []))

-- behind records stands the last one's body
pub body_there : (at gate : ℕ) (bodies : List (List ℕ)) (body c : List ℕ) → gate ≡ at + length (records bodies) → IsJournal (bodies ++ body ∷ []) (drop at c) → (rest : List ℕ) × (drop (gate + 5) c ≡ body ++ rest)
body_there at gate bodies body c gate_is journal =
    let step : at + (length (records bodies) + 5) ≡ gate + 5 = omega (arith, gate_is) in
    let rest = journal.gate ∷ journal.after in
    let split : drop at c ≡ records bodies ++ (framed body ++ rest) = journal.bytes_are ∙ records-push bodies body rest in (
      rest,
      ap (λ k. drop k c) (sym step)
          ∙ sym (drop-drop (length (records bodies) + 5) at c)
          ∙ ap (λ l. drop (length (records bodies) + 5) l) split
          ∙ sym (drop-drop 5 (length (records bodies)) (records bodies ++ (framed body ++ rest)))
          ∙ ap (λ l. drop 5 l) (drop_at (records bodies) (framed body ++ rest) (length (records bodies)) refl),
    )

journal_long : (at : ℕ) (bodies : List (List ℕ)) (b : List ℕ) → IsJournal bodies (drop at b) → at + length (records bodies) + 1 ≤ length b
journal_long at bodies b journal = omega (arith, ap length journal.bytes_are, length-append (records bodies) (journal.gate ∷ journal.after), length-drop at b)

module _ (opening version : Version) (y : Layout) (z : Slots) (rs : List Record) (b : List ℕ) (end_is : y.end ≡ place_behind rs) where
  -- ---- the row as it is ----

  pub row_journal : (a : Option Segment) (is : IsIndexed opening version y z a rs b) → IsJournal (bodies_of rs ++ head_of y a) b → IsJournal (row_bodies opening version y z a rs b is) (drop (row_at a) b)
  row_journal None is journal = subst (λ l. IsJournal l b) (append-nil (bodies_of rs)) journal
  row_journal (Some g) is journal = is.current.journal

  pub gate_is : (a : Option Segment) (is : IsIndexed opening version y z a rs b) → gate_in y a ≡ row_at a + length (records (row_bodies opening version y z a rs b is))
  gate_is None is = omega (arith, end_is, places rs)
  gate_is (Some g) is =
      let cur = is.current in
      omega (arith, cur.end_is, places cur.records, length-append (framed (base_bytes cur.kind cur.base g.areas)) (records (bodies_of cur.records)), base_long cur.kind cur.base g.areas)

  pub row_inside : (a : Option Segment) (is : IsIndexed opening version y z a rs b) → IsJournal (bodies_of rs ++ head_of y a) b → gate_in y a + 1 ≤ length b
  row_inside a is journal = omega (arith, gate_is a is, journal_long (row_at a) (row_bodies opening version y z a rs b is) b (row_journal a is journal))

  -- ---- what stands before it ----

  pub rows_long : (a : Option Segment) → length (records (bodies_of rs ++ head_of y a)) + 1 ≤ y.end + 15
  rows_long None = omega (arith, ap (λ l. length (records l)) (append-nil (bodies_of rs)), places rs, end_is)
  rows_long (Some g) = omega (arith, length-records-push (bodies_of rs) (head_bytes (y.end + 15)), places rs, end_is)

-- slots that lie before what is written
pub tells_stay : (head from to number place : ℕ) (z : Slots) (b c : List ℕ) → StaysOutside from to b c → head + 34 ≤ from → ArePlacedAt head z → Tells z.this z.other number place b → Tells z.this z.other number place c
tells_stay head from to number place z b c stays before at tells =
    let this : z.this + slot_length ≤ from = ⊎_elim (λ p. omega (arith, p.0, before)) (λ p. omega (arith, p.0, before)) at in
    let other : z.other + slot_length ≤ from = ⊎_elim (λ p. omega (arith, p.1, before)) (λ p. omega (arith, p.1, before)) at in
    record {
      slot = slot_stays from to z.this 1 number place b c stays (inl this) tells.slot;
      rest = ⊎_elim (λ shut. inl (shut_stays from to z.other b c stays (inl (omega (arith, other))) shut)) (λ less. inr (lesser_stays from to z.other number b c stays (inl other) less)) tells.rest;
    }

pub other_stays : (is_open : Bool) (head from to number : ℕ) (z : Slots) (b c : List ℕ) → StaysOutside from to b c → head + 34 ≤ from → ArePlacedAt head z → IsOther is_open z.other number b → IsOther is_open z.other number c
other_stays true head from to number z b c stays before at is =
    let other : z.other + slot_length ≤ from = ⊎_elim (λ p. omega (arith, p.1, before)) (λ p. omega (arith, p.1, before)) at in
    lesser_stays from to z.other number b c stays (inl other) is
other_stays false head from to number z b c stays before at is =
    let other : z.other + 1 ≤ from = ⊎_elim (λ p. omega (arith, p.1, before)) (λ p. omega (arith, p.1, before)) at in
    shut_stays from to z.other b c stays (inl other) is

-- ---- the row as it was ----

-- a segment in whose row nothing changes
pub current_in : (opening version : Version) (g : Segment) (index : Plain) (b c : List ℕ) (cur : IsCurrent opening version g index b) → IsJournal (base_bytes cur.kind cur.base g.areas ∷ bodies_of cur.records) (drop g.place c) → IsCurrent opening version g index c
current_in opening version g index b c cur row = record {
  kind = cur.kind;
  base = cur.base;
  from = cur.from;
  kind_is = cur.kind_is;
  older = cur.older;
  is_base = cur.is_base;
  records = cur.records;
  journal = row;
  placed = cur.placed;
  based_is = cur.based_is;
  ops_is = cur.ops_is;
  grows_is = cur.grows_is;
  end_is = cur.end_is;
  limit_is = cur.limit_is;
  index_is = cur.index_is;
}

module _ (opening version : Version) (y : Layout) (z : Slots) (rs : List Record) (b : List ℕ) (end_is : y.end ≡ place_behind rs) (c : List ℕ) (to : ℕ) where
  abbrev Front : Option Segment → List ℕ → Type 0
  Front a l = IsJournal (bodies_of rs ++ head_of y a) l

  front_stays : (g : Segment) → AreLive (live_areas y (Some g)) → IsSegment g → StaysOutside g.end to b c → Front (Some g) b → Front (Some g) c
  front_stays g live segment stays journal =
      row_stays g.end to 0 (bodies_of rs ++ head_of y (Some g)) b c stays (inl (omega (arith, rows_long opening version y z rs b end_is (Some g), head_before y g live segment, segment.begun))) journal

  pub without : (a : Option Segment) (is : IsIndexed opening version y z a rs b) → AreLive (live_areas y a) → IfSegment a → StaysOutside (gate_in y a) to b c → Front a b
      → IsJournal (row_bodies opening version y z a rs b is) (drop (row_at a) c) → Front a c × IsIndexed opening version y z a rs c
  without None is live segment stays journal row = (subst (λ l. IsJournal l c) (sym (append-nil (bodies_of rs))) row, is)
  without (Some g) is live segment stays journal row =
      let before : y.end + 15 + 34 ≤ g.end = omega (arith, head_before y g live segment, segment.begun) in (
        front_stays g live segment stays journal,
        record {
          at = is.at;
          tells = tells_stay (y.end + 15) g.end to g.number g.place z b c stays before is.at is.tells;
          other = other_stays z.is_open (y.end + 15) g.end to g.number z b c stays before is.at is.other;
          current = current_in opening version g y.index b c is.current row;
          within = λ k v found. omega (arith, is.within k v found, stays.no_shorter);
        },
      )

  -- ---- the row with a record more ----

  module _ (v : Record) (is_record : IsRecord v) (next : Version) (follows : version_after version v ≡ Some next) (limit : ℕ) where
    with_current : (g : Segment) (cur : IsCurrent opening version g y.index b) → HasLimit (Some g) limit v → IsJournal ((base_bytes cur.kind cur.base g.areas ∷ bodies_of cur.records) ++ record_bytes v ∷ []) (drop g.place c)
        → IsCurrent opening next (record g { ops = g.ops + counts_as v; end = g.end + record_length (body_length v); limit = limit }) (applied y.index (placed_record (g.end + 5) v)) c
    with_current g cur long row = record {
      kind = cur.kind;
      base = cur.base;
      from = cur.from;
      kind_is = cur.kind_is;
      older = cur.older;
      is_base = cur.is_base;
      records = cur.records ++ v ∷ [];
      journal = subst (λ l. IsJournal (base_bytes cur.kind cur.base g.areas ∷ l) (drop g.place c)) (sym (bodies-push cur.records v)) row;
      placed = placed-push cur.from version next cur.records v cur.placed is_record follows;
      based_is = cur.based_is;
      ops_is = omega (arith, cur.ops_is, count-push cur.records v);
      grows_is = cur.grows_is;
      end_is = omega (arith, cur.end_is, place-push cur.records v);
      limit_is = long (base_length cur.base g.areas) cur.records (omega (arith, cur.end_is)) cur.limit_is;
      index_is = (λ i. applied (cur.index_is i) (placed_record (cur.end_is i + 5) v)) ∙ sym (indexed-push (behind_base g cur.base) cur.base cur.records v);
    }

    pub with_more : (a : Option Segment) (is : IsIndexed opening version y z a rs b) → AreLive (live_areas y a) → IfSegment a → StaysOutside (gate_in y a) to b c → Front a b → HasLimit a limit v → ArePlaced Blank rs opening → y.ops ≡ op_count rs
        → IsJournal (row_bodies opening version y z a rs b is ++ record_bytes v ∷ []) (drop (row_at a) c) → LiesAs next (more y a limit v) z c
    with_more None is live segment stays journal long placed ops_is row = record {
      records = rs ++ v ∷ [];
      journal = subst (λ l. IsJournal l c) (sym (bodies-push rs v) ∙ sym (append-nil (bodies_of (rs ++ v ∷ [])))) row;
      first = next;
      placed = placed-push Blank version next rs v (subst (λ w. ArePlaced Blank rs w) (sym is.0) placed) is_record follows;
      ops_is = omega (arith, ops_is, count-push rs v);
      end_is = omega (arith, end_is, place-push rs v);
      index_is = (refl, (let gate : y.end ≡ 0 + place_behind rs = omega (arith, end_is) in (λ i. applied (is.1 i) (placed_record (gate i + 5) v)) ∙ sym (indexed-push 0 unformatted rs v)));
    }
    with_more (Some g) is live segment stays journal long placed ops_is row =
        let before : y.end + 15 + 34 ≤ g.end = omega (arith, head_before y g live segment, segment.begun) in
        record {
          records = rs;
          journal = front_stays g live segment stays journal;
          first = opening;
          placed = placed;
          ops_is = ops_is;
          end_is = end_is;
          index_is = record {
            at = is.at;
            tells = tells_stay (y.end + 15) g.end to g.number g.place z b c stays before is.at is.tells;
            other = other_stays z.is_open (y.end + 15) g.end to g.number z b c stays before is.at is.other;
            current = with_current g is.current long row;
            within = λ k w found. omega (arith, is.within k w found, stays.no_shorter);
          };
        }
