-- Where a mark has room.
use Rattle.std.proofs.Common.{◌≡◌, ⊎_elim, refl, ◌+◌, ◌≤◌, ◌<◌, ◌^◌, ◌&&◌, ◌||◌, ℕ, List, Option, None, Some, Bool, true, false, cond, nat_lt, nat_le, sym, ◌∙◌, ap, subst, arith}
use Rattle.std.proofs.lemmas.Bool.{or_parts, ltb-false, leb-false}
use Rattle.ld_msg.specs.Register.{journal_limit}
use Rattle.ld_op.specs.declared.record.Record.TheVariants.{Mark}
use Rattle.ld_op.specs.declared.version.Version.TheVariants.{First}
use Rattle.ld_op.specs.Bytes.{record_bytes}
use Rattle.ld_layout.specs.LaidOut.{is_past}
use Rattle.ld_layout.specs.Layout.{Layout, Segment, switches, switched_to, is_full_first, is_full_later, base_length, head_end, live_areas, IfSegment}
use Rattle.ld_layout.specs.Areas.{AreLive}
use Rattle.ld_segment.specs.Lies.{Slots, LiesAs, IsSound, IfBounded, segment_for, gate_in, mark_passes, mark_passes_in}
use Rattle.ld_segment.specs.Plans.{planned, planned_end}
use Rattle.ld_segment.proofs.Standing.{head_before}
use Rattle.ld_segment.proofs.Sound.{Passes, behind_head}
use Rattle.ld_segment.proofs.Planning.{plan_fits}
use Rattle.ld_segment.proofs.Limits.{not_past}
use Rattle.ld_store.specs.Laid.{IsPast}

abbrev mark : List ℕ
mark = record_bytes Mark

module _ (y : Layout) (z : Slots) (b : List ℕ) (lies : LiesAs First y z b) (sound : IsSound y) (fits : mark_passes y ≡ false) where
  -- without a switch
  stays : switches y 2 ≡ false → (y.end ≤ journal_limit) × (gate_in y y.later + 8 ≤ journal_limit)
  unfolding switches switched_to
  stays goes = by y.later (or_parts (is_full_first y y.later) (is_full_later 2 y.later) goes).1 (sym (ap (λ t. mark_passes_in y (cond t (switched_to y 7 7) y).later) goes) ∙ fits) sound.laid.live sound.laid.segment sound.bounded
    where
      by : (a : Option Segment) → is_full_later 2 a ≡ false → mark_passes_in y a ≡ false → AreLive (live_areas y a) → IfSegment a → IfBounded y.end a → (y.end ≤ journal_limit) × (gate_in y a + 8 ≤ journal_limit)
      by None full none live segment bounded = let low = ltb-false journal_limit (y.end + 8) none in (omega (arith, low), omega (arith, low))
      by (Some g) full none live segment bounded =
          let room = not_past g Mark full in
          let head = head_before y g live segment in
          (omega (arith, head, bounded.limit, segment.begun, segment.within), omega (arith, room, bounded.limit))

  -- with one
  no_limit : switches y 2 ≡ true → is_past y.index (segment_for y 2) ≡ false
  unfolding switched_to
  no_limit is = ap (λ t. t && is_past y.index (segment_for y 2)) (sym is) ∙ sym (ap (λ t. mark_passes_in y (cond t (switched_to y 7 7) y).later) is) ∙ fits

  passes : switches y 2 ≡ true → Passes y (segment_for y 2)
  passes is =
      let g : Segment = segment_for y 2 in
      let parts = or_parts (nat_lt journal_limit g.limit) (nat_le (2 ^ 32) (base_length y.index g.areas) || nat_le (2 ^ 64) g.number) (no_limit is) in
      let more = or_parts (nat_le (2 ^ 32) (base_length y.index g.areas)) (nat_le (2 ^ 64) g.number) parts.1 in
      record { limit = ltb-false journal_limit g.limit parts.0; fits = leb-false (2 ^ 32) (base_length y.index g.areas) more.0; number = leb-false (2 ^ 64) g.number more.1 }

  far : head_end y.end ≤ (segment_for y 2).place
  far = behind_head y 7 7 sound.laid (omega arith)

  first_room : switches y 2 ≡ false → y.later ≡ None → y.end + 1 + 7 ≤ journal_limit
  first_room goes e = let low : y.end + 8 ≤ journal_limit = subst (λ a. gate_in y a + 8 ≤ journal_limit) e (stays goes).1 in omega (arith, low)

  written_low : planned_end (planned 9 y z mark) ≤ journal_limit
  written_low = plan_fits 9 First y z b Mark lies sound first_room passes

  -- within the limit are the end of the first segment, the gate, and all that is written
  not_far : IsPast 9 y z mark → ⊥
  not_far past = by (switches y 2) refl past
    where
      by : (t : Bool) → switches y 2 ≡ t → IsPast 9 y z mark → ⊥
      by true is past =
          let limit = (passes is).limit in
          ⊎_elim
          (λ end. omega (arith, end, far, limit))
          (λ rest. ⊎_elim
          (λ gate. gate_low y.later sound.laid.segment sound.bounded gate)
          (λ rest. ⊎_elim
          (λ long. clash (is_past y.index (segment_for y 2)) long.1 (no_limit is))
          (λ whole. omega (arith, whole, written_low))
          rest)
          rest)
          past
        where
          clash : (t : Bool) → t ≡ true → t ≡ false → ⊥
          clash true a e = absurd (cc e)
          clash false a e = absurd (cc a)

          gate_low : (a : Option Segment) → IfSegment a → IfBounded y.end a → journal_limit < gate_in y a → ⊥
          gate_low None segment bounded gate = omega (arith, gate, far, (passes is).limit)
          gate_low (Some g) segment bounded gate = omega (arith, gate, segment.within, bounded.limit)
      by false is past =
          let low = stays is in
          ⊎_elim
          (λ end. omega (arith, end, low.0))
          (λ rest. ⊎_elim
          (λ gate. omega (arith, gate, low.1))
          (λ rest. ⊎_elim
          (λ long. absurd (cc (sym is ∙ long.0)))
          (λ whole. omega (arith, whole, written_low))
          rest)
          rest)
          past

-- so it is full where a mark passes
pub past_passes : (y : Layout) (z : Slots) (b : List ℕ) → LiesAs First y z b → IsSound y → IsPast 9 y z mark → mark_passes y ≡ true
past_passes y z b lies sound past = by (mark_passes y) refl
  where
    by : (t : Bool) → mark_passes y ≡ t → t ≡ true
    by true is = refl
    by false is = absurd (not_far y z b lies sound is past)
