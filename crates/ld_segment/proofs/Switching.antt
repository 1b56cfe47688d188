-- A later switch, as its calls leave it: the old segment counts, or the new one, and all that counts stays.
use Rattle.std.proofs.Common.{◌≡◌, ◌⊎◌, inl, inr, ⊎_elim, refl, ℕ, ◌+◌, ◌-◌, ◌≤◌, ◌<◌, List, [], ◌∷◌, ◌++◌, length, take, drop, Some, Bool, true, false, sym, ◌∙◌, ap, subst, arith, ◌==◌}
use Rattle.ld_table.specs.Table.{find}
use Rattle.ld_journal.specs.Format.{records, IsJournal}
use Rattle.ld_op.specs.declared.record.Record.{Record}
use Rattle.ld_op.specs.declared.version.Version.{Version}
use Rattle.ld_layout.specs.Areas.{IsApart, AreLive}
use Rattle.ld_layout.specs.Layout.{Layout, Segment, base_length, live_areas, growth_told, IsSegment}
use Rattle.ld_segment.specs.Stays.{IsSameAt, StandsAt}
use Rattle.ld_segment.specs.Left.{Switching}
use Rattle.ld_segment.specs.Slots.{says_bytes, slot_length, IsSlot, IsShut, IsLesser, Tells, SlotsApart, IsNextSwitch, IsElsewhere}
use Rattle.ld_segment.specs.Bases.{IsBase, HasNoLoss}
use Rattle.ld_segment.specs.Ops.{bodies_of, place_behind}
use Rattle.ld_segment.specs.Lies.{Slots, IsOther, IsLater, after_base, head_of, shut_over, next_switch, slots_after}
use Rattle.std.proofs.lemmas.List.{take-take, drop-drop}
use Rattle.ld_segment.proofs.Ranges.{drop_take}
use Rattle.ld_segment.proofs.CurrentSlots.{says_long}
use Rattle.ld_segment.proofs.Rows.{same_front}
use Rattle.ld_segment.proofs.Standing.{Standing, IsSameByte, same_byte, is_live, this_live, off_head, head_before}
use Rattle.ld_segment.proofs.More.{row_bodies, gate_is, row_inside, rows_long, current_in}
use Rattle.ld_segment.proofs.NewSegments.{IsNew, base_record_long, new_current}

-- a part of some bytes that are as they were
part_same : (at m i : ℕ) (piece b c : List ℕ) → IsSameAt at m b c → i + length piece ≤ m → StandsAt (at + i) piece b → StandsAt (at + i) piece c
part_same at m i piece b c same within stands =
    let cut : (l : List ℕ) → take (length piece) (drop (at + i) l) ≡ take (length piece) (drop i (take m (drop at l))) = (λ l. ap (λ k. take (length piece) k) (sym (drop-drop i at l)) ∙ sym (shorter (drop at l))) in
    cut c ∙ ap (λ l. take (length piece) (drop i l)) same ∙ sym (cut b) ∙ stands
  where
    shorter : (l : List ℕ) → take (length piece) (drop i (take m l)) ≡ take (length piece) (drop i l)
    shorter l =
        let one : i + (m - i) ≡ m = omega arith in
        ap (λ k. take (length piece) (drop i (take k l))) (sym one) ∙ ap (λ k. take (length piece) k) (drop_take i (m - i) l) ∙ take-take (length piece) (m - i) (drop i l) (omega arith)

-- a slot's bytes that are as they were
slot_same : (at gate number place : ℕ) (b c : List ℕ) → IsSameAt at slot_length b c → IsSlot at gate number place b → IsSlot at gate number place c
slot_same at gate number place b c same slot = record {
  gate_there = stands_in same slot.gate_there;
  says_there = part_same at slot_length 1 (says_bytes number place) b c same (omega (arith, says_long number place)) slot.says_there;
}
  where
    stands_in : IsSameAt at slot_length b c → StandsAt at (gate ∷ []) b → StandsAt at (gate ∷ []) c
    stands_in same stands = let none : at + 0 ≡ at = omega arith in subst (λ k. StandsAt k (gate ∷ []) c) none (part_same at slot_length 0 (gate ∷ []) b c same (omega arith) (subst (λ k. StandsAt k (gate ∷ []) b) (sym none) stands))

module _ (opening version : Version) (y : Layout) (z : Slots) (g : Segment) (rs : List Record) (b : List ℕ) (end_is : y.end ≡ place_behind rs) (journal : IsJournal (bodies_of rs ++ head_of y (Some g)) b)
    (later : IsLater opening version (y.end + 15) z g y.index b) (live : AreLive (live_areas y (Some g))) (segment : IsSegment g)
    (kind : ℕ) (n : Segment) (size : ℕ) (free : (k v : ℕ) → find k (live_areas y (Some g)) ≡ Some v → IsApart size n.place (k, v)) (behind : y.end + 49 ≤ n.place) (long : base_length y.index n.areas + 6 ≤ size) (greater : g.number < n.number) where
  abbrev pub w : Switching
  w = next_switch kind y z n

  before : y.end + 49 ≤ g.place
  before = omega (arith, head_before y g live segment)

  gate_inside : g.end + 1 ≤ length b
  gate_inside = row_inside opening version y z rs b end_is (Some g) later journal

  this_end : z.this + slot_length ≤ y.end + 49
  this_end = ⊎_elim (λ p. omega (arith, p.0)) (λ p. omega (arith, p.0)) later.at

  other_end : z.other + slot_length ≤ y.end + 49
  other_end = ⊎_elim (λ p. omega (arith, p.1)) (λ p. omega (arith, p.1)) later.at

  other_from : y.end + 15 ≤ z.other
  other_from = ⊎_elim (λ p. omega (arith, p.1)) (λ p. omega (arith, p.1)) later.at

  slots_apart : SlotsApart z.this z.other
  slots_apart = ⊎_elim (λ p. inl (omega (arith, p.0, p.1))) (λ p. inr (omega (arith, p.0, p.1))) later.at

  shut_is : (is_open : Bool) → IsOther is_open z.other g.number b → ((shut_over is_open ≡ []) × IsShut z.other b) ⊎ ((shut_over is_open ≡ 0 ∷ []) × IsLesser z.other g.number b)
  shut_is true other = inr (refl, other)
  shut_is false other = inl (refl, other)

  pub next_is : IsNextSwitch z.this z.other g.number n.number n.place w b
  next_is = record {
    slot_is = refl;
    says_is = refl;
    greater = greater;
    shut = shut_is z.is_open later.other;
    apart = slots_apart;
    inside = (omega (arith, this_end, before, segment.begun, gate_inside), omega (arith, other_end, before, segment.begun, gate_inside));
    base_apart = (omega (arith, this_end, behind), omega (arith, other_end, behind));
  }

  base_ends : length w.base ≤ size
  base_ends = omega (arith, base_record_long kind y n, long)

  -- ---- what is elsewhere ----

  away_front : IsElsewhere w 0 (length (records (bodies_of rs ++ head_of y (Some g))) + 1) b
  away_front =
      let most = rows_long opening version y z rs b end_is (Some g) in
      record { there = omega (arith, most, before, segment.begun, gate_inside); base = inl (omega (arith, most, behind)); slot = inl (omega (arith, most, other_from)) }

  abbrev row : List (List ℕ)
  row = row_bodies opening version y z (Some g) rs b later

  away_row : IsElsewhere w g.place (length (records row) + 1) b
  away_row =
      let gate = gate_is opening version y z rs b end_is (Some g) later in
      record {
        there = omega (arith, gate, gate_inside);
        base = ⊎_elim
            (λ past. inr (omega (arith, past, base_ends)))
            (λ under. inl (omega (arith, under, gate, segment.begun, segment.within)))
            (free g.place (g.limit - g.place) (this_live y g));
        slot = inr (omega (arith, other_end, before));
      }

  there_byte : (k : ℕ) → Standing y (Some g) k → k + 1 ≤ length b
  there_byte k at = ⊎_elim
      (λ one. omega (arith, one, before, segment.begun, gate_inside))
      (λ more. ⊎_elim (λ this. omega (arith, this.1, gate_inside)) (λ other. omega (arith, other.below, later.within other.place other.length other.found)) more)
      at

  away_byte : (k : ℕ) → Standing y (Some g) k → IsElsewhere w k 1 b
  away_byte k at =
      let alive = is_live y (Some g) k segment at in
      record {
        there = there_byte k at;
        base = ⊎_elim (λ past. inr (omega (arith, past, base_ends, alive.from))) (λ under. inl (omega (arith, under, alive.below))) (free alive.place alive.length alive.found);
        slot = ⊎_elim (λ one. inl (omega (arith, one, other_from))) (λ more. inr (omega (arith, more, other_end))) (off_head y (Some g) k live segment at);
      }

  away_this : IsElsewhere w z.this slot_length b
  away_this = record { there = next_is.inside.0; base = inl next_is.base_apart.0; slot = slots_apart }

  -- ---- what a crash or all calls leave ----

  module _ (c : List ℕ) (same : (k m : ℕ) → IsElsewhere w k m b → IsSameAt k m b c) (longer : length b ≤ length c) where
    pub front_same : IsJournal (bodies_of rs ++ head_of y (Some g)) c
    front_same = same_front (bodies_of rs ++ head_of y (Some g)) b c journal (same 0 (length (records (bodies_of rs ++ head_of y (Some g))) + 1) away_front)

    pub bytes_same : (k : ℕ) → Standing y (Some g) k → IsSameByte k b c
    bytes_same k at = same_byte k b c (same k 1 (away_byte k at))

    within_too : (k v : ℕ) → find k g.areas ≡ Some v → k + v ≤ length c
    within_too k v found = omega (arith, later.within k v found, longer)

    old_with : (is_open : Bool) → Tells z.this z.other g.number g.place c → IsOther is_open z.other g.number c → IsLater opening version (y.end + 15) (record z { is_open = is_open }) g y.index c
    old_with is_open tells other = record {
      at = later.at;
      tells = tells;
      other = other;
      current = current_in opening version g y.index b c later.current (same_front row (drop g.place b) (drop g.place c) later.current.journal (same g.place (length (records row) + 1) away_row));
      within = within_too;
    }

    -- the old segment counts
    pub old_later : Tells z.this z.other g.number g.place c → (x : Slots) × IsLater opening version (y.end + 15) x g y.index c
    old_later tells = ⊎_elim (λ shut. (record z { is_open = false }, old_with false tells shut)) (λ less. (record z { is_open = true }, old_with true tells less)) tells.rest

    -- the new one does
    pub new_later : (from : Version) → Tells z.other z.this n.number n.place c → StandsAt n.place w.base c → after_base kind opening ≡ Some from → (kind ≡ 9 → HasNoLoss y.index) → growth_told kind ≡ y.grows → IsBase y.index n.areas → IsNew y n
        → ((k v : ℕ) → find k n.areas ≡ Some v → k + v ≤ length b) → IsLater opening from (y.end + 15) (slots_after y z (Some g)) n y.index c
    new_later from tells stands kind_is older room_is is_base new within = record {
      at = ⊎_elim (λ p. inr (p.1, p.0)) (λ p. inl (p.1, p.0)) later.at;
      tells = tells;
      other = record { gate = 1; number = g.number; place = g.place; slot = slot_same z.this 1 g.number g.place b c (same z.this slot_length away_this) later.tells.slot; lesser = greater };
      current = new_current kind opening from y n c kind_is older room_is is_base new stands;
      within = λ k v found. omega (arith, within k v found, longer);
    }
