-- Bytes lie in one way at most: as one layout says, in a journal of one version.
use Rattle.std.proofs.Common.{◌≡◌, ℕ, ◌+◌, ◌<◌, ◌^◌, List, [], ◌∷◌, drop, Option, Some, None, is_some, refl, sym, ◌∙◌, ap, subst, arith, ◌==◌}
use Rattle.ld_journal.specs.Format.{IsJournal}
use Rattle.ld_journal.proofs.Reading.{one_reading}
use Rattle.ld_msg.specs.Register.{record_length}
use Rattle.ld_op.specs.declared.record.Record.{Record}
use Rattle.ld_op.specs.declared.version.Version.{Version}
use Rattle.ld_op.specs.Plain.{Plain, unformatted}
use Rattle.ld_layout.specs.Base.{Base, base_bytes}
use Rattle.ld_layout.specs.Layout.{Layout, Segment, base_length, entry_count, least_for, room_for, growth_told, IfSegment}
use Rattle.ld_segment.specs.Ops.{bodies_of, place_behind, op_count, indexed, version_on, ArePlaced}
use Rattle.ld_segment.specs.Lies.{Slots, first_length, behind_base, IfBounded, IsLater, IsIndexed, LiesAs, IsSound}
use Rattle.ld_segment.specs.Later.{IsBaseAt}
use Rattle.ld_segment.proofs.Readings.{same_records, same_rows}
use Rattle.ld_segment.proofs.OneSlot.{told_once}
use Rattle.ld_segment.proofs.ReadLater.{base_in, base_there, same_base, same_version}

abbrev tail_of : List (List ℕ) → List (List ℕ)
tail_of [] = []
tail_of (b ∷ bs) = bs

-- behind the same records there is one version
one_version : (from other v w : Version) (us vs : List Record) → from ≡ other → us ≡ vs → ArePlaced from us v → ArePlaced other vs w → v ≡ w
one_version from other v w us vs same rows here there = let both : Some v ≡ Some w = sym here.version_is ∙ (λ i. version_on (Some (same i)) (rows i)) ∙ there.version_is in cc both

-- ---- a later segment ----

module _ (opening version other : Version) (head : ℕ) (z x : Slots) (g h : Segment) (p q : Plain) (bytes : List ℕ) (here : IsLater opening version head z g p bytes) (there : IsLater opening other head x h q bytes)
    (number_g : g.number < 2 ^ 64) (place_g : g.place < 2 ^ 64) (number_h : h.number < 2 ^ 64) (place_h : h.place < 2 ^ 64) where
  told : ((z.this ≡ x.this) × (z.other ≡ x.other)) × ((g.number ≡ h.number) × (g.place ≡ h.place))
  told = told_once head g.number g.place h.number h.place z x bytes here.at there.at here.tells there.tells number_g place_g number_h place_h

  place : g.place ≡ h.place
  place = told.1.1

  abbrev a : Base
  a = base_in here.current.kind here.current.base g.areas

  abbrev b : Base
  b = base_in there.current.kind there.current.base h.areas

  a_there : IsBaseAt opening h.place a here.current.from bytes
  a_there = subst (λ k. IsBaseAt opening k a here.current.from bytes) place (base_there opening version g p bytes here.current)

  b_there : IsBaseAt opening h.place b there.current.from bytes
  b_there = base_there opening other h q bytes there.current

  base : a ≡ b
  base = same_base opening h.place a b here.current.from there.current.from bytes a_there b_there

  from : here.current.from ≡ there.current.from
  from = same_version opening h.place a b here.current.from there.current.from bytes a_there b_there

  records : here.current.records ≡ there.current.records
  records = same_records here.current.records there.current.records here.current.placed.are there.current.placed.are
      (ap tail_of (one_reading (drop h.place bytes) (base_bytes here.current.kind here.current.base g.areas ∷ bodies_of here.current.records) (base_bytes there.current.kind there.current.base h.areas ∷ bodies_of there.current.records)
      (subst (λ k. IsJournal (base_bytes here.current.kind here.current.base g.areas ∷ bodies_of here.current.records) (drop k bytes)) place here.current.journal) there.current.journal))

  behind : behind_base g here.current.base ≡ behind_base h there.current.base
  behind = λ i. place i + record_length (base_length (base i).index (base i).areas)

  grows : g.grows ≡ h.grows
  grows = here.current.grows_is ∙ ap (λ c. growth_told c.kind) base ∙ sym there.current.grows_is

  segment : g ≡ h
  segment = λ i. record {
    place = place i;
    based = (here.current.based_is ∙ ap (λ c. entry_count c.index.logs) base ∙ sym there.current.based_is) i;
    ops = (here.current.ops_is ∙ ap op_count records ∙ sym there.current.ops_is) i;
    end = (here.current.end_is ∙ (λ j. behind j + place_behind (records j)) ∙ sym there.current.end_is) i;
    limit = (here.current.limit_is ∙ (λ j. behind j + 1 + room_for (least_for (grows j) (base_length (base j).index (base j).areas)) (first_length (records j))) ∙ sym there.current.limit_is) i;
    areas = (base i).areas;
    number = told.1.0 i;
    grows = grows i;
  }

  one_segment : (version ≡ other) × (g ≡ h) × (p ≡ q)
  one_segment = (
    one_version here.current.from there.current.from version other here.current.records there.current.records from records here.current.placed there.current.placed,
    segment,
    here.current.index_is ∙ (λ i. indexed (behind i) (base i).index (records i)) ∙ sym there.current.index_is,
  )

-- ---- the whole layout ----

abbrev Same : Version → Version → Layout → Layout → Option Segment → Option Segment → Type 0
Same v w y x a b = (v ≡ w) × (a ≡ b) × (y.index ≡ x.index)

one_later : (y x : Layout) (a b : Option Segment) (z q : Slots) (opening v w : Version) (us vs : List Record) (bytes : List ℕ) → us ≡ vs → y.end ≡ x.end → is_some a ≡ is_some b
    → IfSegment a → IfSegment b → IfBounded y.end a → IfBounded x.end b → IsIndexed opening v y z a us bytes → IsIndexed opening w x q b vs bytes → Same v w y x a b
one_later y x None None z q opening v w us vs bytes rows ends kind seg_a seg_b fit_a fit_b here there = (here.0 ∙ sym there.0, refl, here.1 ∙ ap (λ l. indexed 0 unformatted l) rows ∙ sym there.1)
one_later y x None (Some h) z q opening v w us vs bytes rows ends kind seg_a seg_b fit_a fit_b here there = absurd (cc kind)
one_later y x (Some g) None z q opening v w us vs bytes rows ends kind seg_a seg_b fit_a fit_b here there = absurd (cc kind)
one_later y x (Some g) (Some h) z q opening v w us vs bytes rows ends kind seg_a seg_b fit_a fit_b here there =
    let head : x.end + 15 ≡ y.end + 15 = omega (arith, ends) in
    let one = one_segment opening v w (y.end + 15) z q g h y.index x.index bytes here (subst (λ k. IsLater opening w k q h x.index bytes) head there)
    fit_a.number (omega (arith, fit_a.limit, seg_a.begun, seg_a.within)) fit_b.number (omega (arith, fit_b.limit, seg_b.begun, seg_b.within)) in
    (one.0, ap (λ s. Some s) one.1, one.2)

pub one_way : (v w : Version) (y x : Layout) (z q : Slots) (bytes : List ℕ) → LiesAs v y z bytes → IsSound y → LiesAs w x q bytes → IsSound x → (v ≡ w) × (y ≡ record x { grows = y.grows })
one_way v w y x z q bytes here sound_here there sound_there =
    let rows = same_rows y x y.later x.later here.records there.records here.placed.are there.placed.are (one_reading bytes _ _ here.journal there.journal) in
    let ends : y.end ≡ x.end = here.end_is ∙ ap place_behind rows.0 ∙ sym there.end_is in
    let first : there.first ≡ here.first = sym (one_version _ _ here.first there.first here.records there.records refl rows.0 here.placed there.placed) in
    let rest = one_later y x y.later x.later z q here.first v w here.records there.records bytes rows.0 ends rows.1 sound_here.laid.segment sound_there.laid.segment sound_here.bounded sound_there.bounded
    here.index_is (subst (λ o. IsIndexed o w x q x.later there.records bytes) first there.index_is) in
    (rest.0, λ i. record { ops = (here.ops_is ∙ ap op_count rows.0 ∙ sym there.ops_is) i; end = ends i; later = rest.1 i; index = rest.2 i; grows = y.grows })
