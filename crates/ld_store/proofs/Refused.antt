-- Bytes in which something is out of place represent no plain state.
use Rattle.std.proofs.Common.{◌≡◌, inl, inr, ⊎_elim, ◌<◌, ◌≤◌, ◌+◌, ◌^◌, drop, ℕ, List, [], ◌∷◌, length, Option, None, Some, sym, ◌∙◌, ap, subst, arith, ◌==◌, ◌-◌}
use Rattle.std.proofs.lemmas.List.{append-nil}
use Rattle.ld_journal.specs.Format.{IsJournal}
use Rattle.ld_journal.proofs.Reading.{one_reading}
use Rattle.ld_msg.specs.Register.{journal_limit}
use Rattle.ld_op.specs.declared.record.Record.{Record}
use Rattle.ld_op.specs.declared.version.Version.{Version}
use Rattle.ld_op.specs.declared.version.Version.TheVariants.{Blank}
use Rattle.ld_op.specs.Plain.{Plain}
use Rattle.ld_op.specs.Bytes.{record_bytes}
use Rattle.ld_op.specs.Cells.{each_plain}
use Rattle.ld_table.specs.Table.{find}
use Rattle.ld_layout.specs.Layout.{Layout, Segment, IfSegment, base_length, room_for, head_end, least_for, growth_told}
use Rattle.ld_segment.specs.Slots.{head_bytes}
use Rattle.ld_segment.specs.Later.{IsThere, IsDamagedBehind, IsReadAs}
use Rattle.ld_segment.specs.declared.later.Later.{Later}
use Rattle.ld_segment.specs.Ops.{bodies_of, indexed, ArePlaced}
use Rattle.ld_segment.specs.Lies.{Slots, LiesAs, IsSound, IsIndexed, IsLater, IfBounded, StandsFor, head_of, first_length}
use Rattle.ld_segment.proofs.Readings.{no_head, same_records}
use Rattle.ld_segment.proofs.ReadLater.{not_refused}
use Rattle.ld_store.specs.Ops.{IsBodyOf, IsBodyOrHead, IsDamagedRow, PassesLimit, HasAreaPast, HasPayloadPast, IsNoBase, IsDamagedIn, IsDamagedLater, within, least_behind}
use Rattle.ld_store.specs.Read.{IsOut}
use Rattle.ld_store.proofs.Damage.{row_fine, fits_is, headed}
use Rattle.ld_store.proofs.Inside.{inside}
use Rattle.ld_store.proofs.OneLayout.{as_read, rest_is}

-- ---- the first segment ----

head_may : (y : Layout) (a : Option Segment) (first : Version) (q : List ℕ) (more : List (List ℕ)) → head_of y a ≡ q ∷ more → IsBodyOrHead first q
head_may y None w q more same = absurd (cc same)
head_may y (Some g) w q more same = let body : head_bytes (y.end + 15) ≡ q = cc same in inr (record { head = y.end + 15; body_is = sym body })

head_other : (y : Layout) (a : Option Segment) (u : Record) (more : List (List ℕ)) → head_of y a ≡ record_bytes u ∷ more → ⊥
head_other y None u more same = absurd (cc same)
head_other y (Some g) u more same = let body : head_bytes (y.end + 15) ≡ record_bytes u = cc same in no_head u (y.end + 15) (sym body)

not_first : (v : Version) (y : Layout) (z : Slots) (bytes : List ℕ) (place : ℕ) → LiesAs v y z bytes → IsDamagedRow IsBodyOrHead 0 Blank place bytes → ⊥
not_first v y z bytes place lies damaged =
    row_fine IsBodyOrHead (λ w body is. inl is) 0 Blank lies.first lies.records (head_of y y.later) bytes place lies.journal lies.placed
    (head_may y y.later lies.first) (head_other y y.later) damaged

-- ---- what the head names ----

module _ (v : Version) (y : Layout) (z : Slots) (bytes : List ℕ) (lies : LiesAs v y z bytes) (sound : IsSound y) (g : Segment) (later_is : y.later ≡ Some g) where
  is : IsLater lies.first v (y.end + 15) z g y.index bytes
  is = subst (λ a. IsIndexed lies.first v y z a lies.records bytes) later_is lies.index_is

  fits : (g.number < 2 ^ 64) × ((g.place < 2 ^ 64) × (head_end y.end ≤ g.place))
  fits = fits_is y g sound later_is

  not_behind : (place : ℕ) → IsDamagedBehind lies.first (y.end + 15) place bytes → ⊥
  not_behind place damaged = not_refused lies.first v (y.end + 15) z g y.index bytes is fits.0 fits.1.0 place (omega (arith, fits.1.1)) damaged

  module _ (c : Later) (there : IsThere lies.first (y.end + 15) c bytes) where
    read : IsReadAs c z g is.current.kind is.current.base is.current.from
    read = as_read v y z bytes g lies.first is fits.0 fits.1.0 c there

    journal : IsJournal (bodies_of is.current.records) (drop c.gate bytes)
    journal = rest_is v y z bytes g lies.first is fits.0 fits.1.0 c there

    placed : ArePlaced c.version is.current.records v
    placed = subst (λ w. ArePlaced w is.current.records v) (sym read.version_is) is.current.placed

    not_row : (place : ℕ) → IsDamagedRow IsBodyOf c.gate c.version place bytes → ⊥
    not_row place damaged =
        row_fine IsBodyOf (λ w body is. is) c.gate c.version v is.current.records [] bytes place
        (subst (λ l. IsJournal l (drop c.gate bytes)) (sym (append-nil (bodies_of is.current.records))) journal) placed
        (λ q more same. absurd (cc same)) (λ u more same. absurd (cc same)) damaged

    not_long : PassesLimit c bytes → ⊥
    not_long passes =
        let rows = same_records is.current.records passes.found placed.are passes.placed.are (one_reading (drop c.gate bytes) (bodies_of is.current.records) (bodies_of passes.found) journal passes.journal) in
        let bounded = subst (λ a. IfBounded y.end a) later_is sound.bounded in
        let size : c.gate - (c.found.place + 5) ≡ base_length is.current.base g.areas = omega (arith, read.gate_is, read.place) in
        let grows : (growth_told c.based.kind) ≡ g.grows = ap (λ k. growth_told k) read.kind_is ∙ sym is.current.grows_is in
        let room : room_for (least_for g.grows (base_length is.current.base g.areas)) (first_length is.current.records) ≡ room_for (least_behind c) (first_length passes.found) = λ i. room_for (least_for (sym grows i) (sym size i)) (first_length (rows i)) in
        omega (arith, bounded.limit, is.current.limit_is, read.gate_is, room, passes.long)

    not_area : HasAreaPast c bytes → ⊥
    not_area past = omega (arith, past.past, is.within past.place past.size (ap (find past.place) (sym read.areas) ∙ past.area))

    not_payload : HasPayloadPast c bytes → ⊥
    not_payload past =
        let rows = same_records is.current.records past.found placed.are past.placed.are (one_reading (drop c.gate bytes) (bodies_of is.current.records) (bodies_of past.found) journal past.journal) in
        let index : y.index ≡ indexed c.gate c.based.index.state past.found = is.current.index_is ∙ (λ i. indexed (sym read.gate_is i) (sym read.index i) (rows i)) in
        past.past (subst (λ p. each_plain (within (length bytes)) p ≡ p) index (inside v y z bytes lies sound))

    is_base : IsNoBase c bytes → ⊥
    is_base off = ⊎_elim not_long (λ past. ⊎_elim not_area not_payload past) off

  not_in : (place : ℕ) → IsDamagedIn lies.first (y.end + 15) place bytes → ⊥
  not_in place damaged = ⊎_elim (λ row. not_row damaged.later damaged.there place row) (λ off. is_base damaged.later damaged.there off.1) damaged.cause

  not_past : journal_limit < y.end + 49 → ⊥
  not_past past =
      let bounded = subst (λ a. IfBounded y.end a) later_is sound.bounded in
      let segment = subst (λ a. IfSegment a) later_is sound.laid.segment in
      omega (arith, past, fits.1.1, bounded.limit, segment.begun, segment.within)

not_later : (v : Version) (y : Layout) (z : Slots) (bytes : List ℕ) (place : ℕ) → LiesAs v y z bytes → IsSound y → IsDamagedLater place bytes → ⊥
not_later v y z bytes place lies sound d =
    let h = headed v y z bytes lies sound d.found d.version d.head d.after d.fits d.there in
    ⊎_elim
    (λ gate. gate.1 h.shut)
    (λ rest. ⊎_elim
    (λ past. not_past v y z bytes lies sound h.later h.later_is (omega (arith, past.1, h.head_is)))
    (λ rest. ⊎_elim
    (λ behind. not_behind v y z bytes lies sound h.later h.later_is place (subst (λ w. IsDamagedBehind w (y.end + 15) place bytes) (sym h.version_is) (subst (λ k. IsDamagedBehind d.version k place bytes) h.head_is behind)))
    (λ inner. not_in v y z bytes lies sound h.later h.later_is place (subst (λ w. IsDamagedIn w (y.end + 15) place bytes) (sym h.version_is) (subst (λ k. IsDamagedIn d.version k place bytes) h.head_is inner)))
    rest)
    rest)
    d.cause

pub not_out : (p : Plain) (bytes : List ℕ) (place : ℕ) → StandsFor p bytes → IsOut place bytes → ⊥
not_out p bytes place stands out = ⊎_elim
    (λ row. not_first stands.version stands.layout stands.slots bytes place stands.lies row)
    (λ later. not_later stands.version stands.layout stands.slots bytes place stands.lies stands.sound later)
    out
