-- What was read is how the bytes lie, where they represent a plain state.
use Rattle.std.proofs.Common.{◌≡◌, ⊎_elim, ◌<◌, ◌+◌, ◌-◌, ◌^◌, ◌==◌, min, drop, ℕ, suc, Bool, List, [], ◌∷◌, ◌++◌, length, Option, Some, None, is_some, true, false, sym, ◌∙◌, ap, refl, subst, arith, append_assoc}
use Rattle.std.proofs.lemmas.List.{append-nil}
use Rattle.ld_journal.specs.Format.{framed, records, IsJournal, append_calls}
use Rattle.ld_journal.specs.Rest.{IsShut}
use Rattle.ld_journal.proofs.Reading.{one_reading}
use Rattle.ld_journal.proofs.Records.{length-framed}
use Rattle.ld_msg.specs.Register.{record_length}
use Rattle.ld_op.specs.declared.record.Record.{Record}
use Rattle.ld_op.specs.declared.record.Record.TheVariants.{Mark}
use Rattle.ld_op.specs.declared.version.Version.{Version}
use Rattle.ld_op.specs.declared.version.Version.TheVariants.{Blank}
use Rattle.ld_op.specs.Bytes.{record_bytes}
use Rattle.ld_op.specs.Plain.{Plain, unformatted}
use Rattle.ld_op.specs.Indexed as based
use Rattle.ld_layout.specs.Base.{base_bytes}
use Rattle.ld_layout.specs.LaidOut.{later_of}
use Rattle.ld_layout.specs.Layout.{Layout, Segment, least_for, room_for, growth_told, entry_count, base_length, switches}
use Rattle.ld_layout.proofs.Lengths.{base_long}
use Rattle.ld_layout.proofs.Segments.{count_is}
use Rattle.ld_segment.specs.Found.{slots_of}
use Rattle.ld_segment.specs.Later.{IsThere, IsReadAs}
use Rattle.ld_segment.specs.Stays.{StandsAt}
use Rattle.ld_segment.specs.declared.later.Later.{Later}
use Rattle.ld_segment.specs.Ops.{bodies_of, place_behind, op_count, version_on, indexed, ArePlaced}
use Rattle.ld_segment.specs.Lies.{Slots, LiesAs, IsSound, IsLater, IsCurrent, IsIndexed, head_of, first_length, mark_row, calls_by, switch_row, segment_for}
use Rattle.ld_segment.proofs.Bodies.{same_version, records_fit}
use Rattle.ld_segment.proofs.Readings.{same_records, same_rows}
use Rattle.ld_segment.proofs.CurrentSlots.{gate_same}
use Rattle.ld_segment.proofs.ReadLater.{read_as, read_kept}
use Rattle.ld_store.specs.Ops.{AreThere, IsOpenAs, IfOpenAs, least_behind}
use Rattle.ld_store.specs.Laid.{layout_in, slots_in}
use Rattle.ld_store.specs.Replayed.{HasReplayed, Replayed}
use Rattle.ld_store.specs.Read.{IsFirstRead, IsLaterRead, IsRead, read_segment}
use Rattle.ld_store.specs.declared.laid.Laid.{Laid}
use Rattle.ld_store.specs.declared.replay.Walk.{Walk}
use Rattle.ld_store.proofs.Replaying.{behind}
use Rattle.ld_store.proofs.Damage.{fits_is, headed}
use Rattle.ld_layout.specs.declared.segment.Growth.TheVariants.{Still}

-- it is this layout, with the slots as they were read
pub record IsSame (v : Version) (y : Layout) (z : Slots) (l : Laid) (index : Plain) (version : Version) (bytes : List ℕ) : Type 0 where
  pub layout : record y { grows = Still } ≡ layout_in l index
  pub version_is : v ≡ version
  pub lies : LiesAs v y (slots_in l) bytes
  pub row : IfOpenAs y.later z bytes → mark_row y z ≡ mark_row y (slots_in l)

-- ---- rows ----

-- records that end at a shut gate
pub row_is : (bytes rest : List ℕ) (found : List Record) (from opening : Version) → ArePlaced from found opening → bytes ≡ records (bodies_of found) ++ rest → IsShut rest → IsJournal (bodies_of found) bytes
row_is bytes rest found from opening placed is shut = record {
  gate = shut.gate;
  after = shut.after;
  bytes_are = is ∙ ap (λ l. records (bodies_of found) ++ l) shut.rest_is;
  shut = shut.shut;
  fits = records_fit found placed.are;
}

-- those behind a first body
pub rest_row : (at n : ℕ) (body : List ℕ) (bodies : List (List ℕ)) (bytes : List ℕ) → length body ≡ n → IsJournal (body ∷ bodies) (drop at bytes) → IsJournal bodies (drop (at + record_length n) bytes)
rest_row at n body bodies bytes long j = record {
  gate = j.gate;
  after = j.after;
  bytes_are = behind at (record_length n) (framed body) (records bodies ++ j.gate ∷ j.after) bytes (omega (arith, length-framed body, long)) (j.bytes_are ∙ append_assoc (framed body) (records bodies) (j.gate ∷ j.after));
  shut = j.shut;
  fits = λ k d less. j.fits (suc k) d (omega (arith, less));
}

one_version : (from v w : Version) (us vs : List Record) → us ≡ vs → ArePlaced from us v → ArePlaced from vs w → v ≡ w
one_version from v w us vs same a b = same_version v w (sym a.version_is ∙ ap (λ l. version_on (Some from) l) same ∙ b.version_is)

none_if : (a : Option Segment) → is_some a ≡ false → a ≡ None
none_if None is = refl
none_if (Some g) is = absurd (cc is)

-- ---- one segment ----

-- the calls of a mark where there is no later segment
row_alone : (y : Layout) (z x : Slots) → y.later ≡ None → mark_row y z ≡ mark_row y x
row_alone y z x none = by (switches y (length (record_bytes Mark)))
  where
    by : (b : Bool) → calls_by 9 y z (record_bytes Mark) (length (record_bytes Mark)) b ≡ calls_by 9 y x (record_bytes Mark) (length (record_bytes Mark)) b
    by true =
        let g = segment_for y (length (record_bytes Mark)) in
        let rest = append_calls g.end (record_bytes Mark) in
        ap (λ a. switch_row 9 y z g a ++ rest) none ∙ sym (ap (λ a. switch_row 9 y x g a ++ rest) none)
    by false = refl

first_same : (v : Version) (y : Layout) (z : Slots) (bytes : List ℕ) (l : Laid) (index : Plain) (version : Version) → LiesAs v y z bytes → IsFirstRead bytes l index version → IsSame v y z l index version bytes
first_same v y z bytes l index version lies r =
    let has = r.all.has in
    let here : IsJournal (bodies_of has.found) bytes = row_is bytes has.rest has.found Blank r.walk.version has.there.placed has.there.bytes_are r.all.stops in
    let rows = one_reading bytes (bodies_of lies.records ++ head_of y y.later) (bodies_of has.found) lies.journal here in
    let same = same_rows y y y.later None lies.records has.found lies.placed.are has.there.placed.are (rows ∙ sym (append-nil (bodies_of has.found))) in
    let none = none_if y.later same.1 in
    let is : IsIndexed lies.first v y z None lies.records bytes = subst (λ a. IsIndexed lies.first v y z a lies.records bytes) none lies.index_is in
    let first = one_version Blank lies.first r.walk.version lies.records has.found same.0 lies.placed has.there.placed in
    let ops : y.ops ≡ l.layout.ops = lies.ops_is ∙ ap op_count same.0 ∙ sym has.ops_is ∙ sym (ap (λ p. p.ops) r.layout_is) in
    let end : y.end ≡ l.layout.end = omega (arith, lies.end_is, ap place_behind same.0, has.at_is, ap (λ p. p.end) r.layout_is) in
    let later : y.later ≡ later_of l.layout.later = none ∙ sym (ap (λ p. later_of p.later) r.layout_is) in
    let still : Still ≡ l.layout.grows = sym (ap (λ p. p.grows) r.layout_is) in
    let i : y.index ≡ index = is.1 ∙ ap (λ vs. indexed 0 unformatted vs) same.0 ∙ sym has.index_is in
    record {
      layout = λ k. record { ops = ops k; end = end k; later = later k; index = i k; grows = still k };
      version_is = is.0 ∙ first ∙ sym r.version_is;
      lies = record {
        records = lies.records;
        journal = lies.journal;
        first = lies.first;
        placed = lies.placed;
        ops_is = lies.ops_is;
        end_is = lies.end_is;
        index_is = subst (λ a. IsIndexed lies.first v y (slots_in l) a lies.records bytes) (sym none) is;
      };
      row = λ gates. row_alone y z (slots_in l) none;
    }

-- ---- two segments ----

-- a slot's gate has one byte
open_same : (at other : ℕ) (a b : Bool) (gate byte : ℕ) (bytes : List ℕ) → at ≡ other → StandsAt at (gate ∷ []) bytes → StandsAt other (byte ∷ []) bytes → a ≡ (gate == 1) → b ≡ (byte == 1) → a ≡ b
open_same at other a b gate byte bytes is here there a_is b_is = a_is ∙ ap (λ n. n == 1) (gate_same other gate byte bytes (subst (λ k. StandsAt k (gate ∷ []) bytes) is here) there) ∙ sym b_is

module _ (v : Version) (y : Layout) (z : Slots) (bytes : List ℕ) (g : Segment) (first : Version) (is : IsLater first v (y.end + 15) z g y.index bytes) (number_fits : g.number < 2 ^ 64) (place_fits : g.place < 2 ^ 64)
    (c : Later) (there : IsThere first (y.end + 15) c bytes) where
  abbrev cur : IsCurrent first v g y.index bytes
  cur = is.current

  pub as_read : IsReadAs c z g cur.kind cur.base cur.from
  as_read = read_as first v (y.end + 15) z g y.index bytes is number_fits place_fits c there

  -- the records behind the Base
  pub rest_is : IsJournal (bodies_of cur.records) (drop c.gate bytes)
  rest_is = subst (λ k. IsJournal (bodies_of cur.records) (drop k bytes)) (sym as_read.gate_is)
      (rest_row g.place (base_length cur.base g.areas) (base_bytes cur.kind cur.base g.areas) (bodies_of cur.records) bytes (base_long cur.kind cur.base g.areas) cur.journal)

  module _ (last : Walk) (index : Plain) (rest : Replayed c.gate c.version c.based.index.state bytes last index None) where
    abbrev has : HasReplayed c.gate c.version c.based.index.state bytes last index
    has = rest.has

    rows : cur.records ≡ has.found
    rows = same_records cur.records has.found cur.placed.are has.there.placed.are
        (one_reading (drop c.gate bytes) (bodies_of cur.records) (bodies_of has.found) rest_is (row_is (drop c.gate bytes) has.rest has.found c.version last.version has.there.placed has.there.bytes_are rest.stops))

    version_same : v ≡ last.version
    version_same = one_version c.version v last.version cur.records has.found rows (subst (λ w. ArePlaced w cur.records v) (sym as_read.version_is) cur.placed) has.there.placed

    index_same : y.index ≡ index
    index_same = cur.index_is ∙ (λ i. indexed (sym as_read.gate_is i) (sym as_read.index i) (rows i)) ∙ sym has.index_is

    segment_same : g ≡ read_segment c last
    segment_same =
        let based_is : min (based.entry_count c.based.index.state.logs) (2 ^ 64 - 1) ≡ entry_count c.based.index.state.logs =
        count_is c.based.index.state g.areas (min (based.entry_count c.based.index.state.logs) (2 ^ 64 - 1)) refl (subst (λ p. base_length p g.areas < 2 ^ 32) (sym as_read.index) cur.is_base.fits) in
        let entries : g.based ≡ min (based.entry_count c.based.index.state.logs) (2 ^ 64 - 1) = cur.based_is ∙ ap (λ p. entry_count p.logs) (sym as_read.index) ∙ sym based_is in
        let ops : g.ops ≡ last.ops = cur.ops_is ∙ ap op_count rows ∙ sym has.ops_is in
        let end : g.end ≡ last.at = omega (arith, cur.end_is, ap place_behind rows, as_read.gate_is, has.at_is) in
        let size : base_length cur.base g.areas ≡ c.gate - (c.found.place + 5) = omega (arith, as_read.gate_is, as_read.place) in
        let grows : g.grows ≡ (growth_told c.based.kind) = cur.grows_is ∙ sym (ap (λ k. growth_told k) as_read.kind_is) in
        let limit : g.limit ≡ c.gate + 1 + room_for (least_behind c) last.first = cur.limit_is ∙ (λ i. sym as_read.gate_is i + 1 + room_for (least_for (grows i) (size i)) ((ap first_length rows ∙ sym has.first_is) i)) in
        λ i. record { place = sym as_read.place i; based = entries i; ops = ops i; end = end i; limit = limit i; areas = sym as_read.areas i; number = sym as_read.number i; grows = grows i }

  slots_same : IsOpenAs z bytes → z ≡ slots_of c.found
  slots_same gates =
      let open_is = open_same z.other c.found.other z.is_open c.found.is_open gates.gate there.found.gate bytes (sym as_read.slots.1) gates.there there.found.gate_there gates.open_is there.found.open_is in
      λ i. record { this = sym as_read.slots.0 i; other = sym as_read.slots.1 i; is_open = open_is i }

later_same : (v : Version) (y : Layout) (z : Slots) (bytes : List ℕ) (l : Laid) (index : Plain) (version : Version) → LiesAs v y z bytes → IsSound y → IsLaterRead bytes l index version → IsSame v y z l index version bytes
later_same v y z bytes l index version lies sound r =
    let has = r.first.has in
    let begins = r.first.stops.begins in
    let h = headed v y z bytes lies sound has.found r.walk.version r.head begins.after r.first.stops.fits (subst (λ rest. AreThere 0 Blank has.found r.walk.version rest bytes) begins.rest_is has.there) in
    let g = h.later in
    let fits = fits_is y g sound h.later_is in
    let end : y.end ≡ r.walk.at = omega (arith, lies.end_is, ap place_behind h.rows, has.at_is) in
    let is : IsLater lies.first v (y.end + 15) z g y.index bytes = subst (λ a. IsIndexed lies.first v y z a lies.records bytes) h.later_is lies.index_is in
    let there : IsThere lies.first (y.end + 15) r.later bytes = subst (λ w. IsThere w (y.end + 15) r.later bytes) (sym h.version_is) (subst (λ k. IsThere r.walk.version k r.later bytes) h.head_is r.there) in
    let segment = segment_same v y z bytes g lies.first is fits.0 fits.1.0 r.later there r.last index r.rest in
    let ops : y.ops ≡ l.layout.ops = lies.ops_is ∙ ap op_count h.rows ∙ sym has.ops_is ∙ sym (ap (λ p. p.ops) r.layout_is) in
    let end_is : y.end ≡ l.layout.end = end ∙ sym (ap (λ p. p.end) r.layout_is) in
    let later : y.later ≡ later_of l.layout.later = h.later_is ∙ ap (λ s. Some s) (segment ∙ sym r.segment_is) ∙ sym (ap (λ p. later_of p.later) r.layout_is) in
    let still : Still ≡ l.layout.grows = sym (ap (λ p. p.grows) r.layout_is) in
    let i : y.index ≡ index = index_same v y z bytes g lies.first is fits.0 fits.1.0 r.later there r.last index r.rest in
    record {
      layout = λ k. record { ops = ops k; end = end_is k; later = later k; index = i k; grows = still k };
      version_is = version_same v y z bytes g lies.first is fits.0 fits.1.0 r.later there r.last index r.rest ∙ sym r.version_is;
      lies = record {
        records = lies.records;
        journal = lies.journal;
        first = lies.first;
        placed = lies.placed;
        ops_is = lies.ops_is;
        end_is = lies.end_is;
        index_is = subst (λ a. IsIndexed lies.first v y (slots_in l) a lies.records bytes) (sym h.later_is)
            (subst (λ s. IsLater lies.first v (y.end + 15) s g y.index bytes) (sym r.slots_are) (read_kept lies.first v (y.end + 15) z g y.index bytes is fits.0 fits.1.0 r.later there));
      };
      row = λ gates. ap (λ s. mark_row y s) (slots_same v y z bytes g lies.first is fits.0 fits.1.0 r.later there (subst (λ a. IfOpenAs a z bytes) h.later_is gates) ∙ sym r.slots_are);
    }

pub one_layout : (v : Version) (y : Layout) (z : Slots) (bytes : List ℕ) (l : Laid) (index : Plain) (version : Version) → LiesAs v y z bytes → IsSound y → IsRead bytes l index version → IsSame v y z l index version bytes
one_layout v y z bytes l index version lies sound read = ⊎_elim (λ r. first_same v y z bytes l index version lies r) (λ r. later_same v y z bytes l index version lies sound r) read
