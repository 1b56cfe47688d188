-- The first switch, as its calls leave it: the first segment as it was, or with the head behind it and all that the head names.
use Rattle.std.proofs.Common.{◌≡◌, ◌≢◌, inl, inr, refl, ℕ, ◌+◌, ◌≤◌, ◌<◌, ◌^◌, min, List, [], ◌∷◌, ◌++◌, length, get_or, None, Some, sym, ◌∙◌, ap, subst, arith, length-append, ◌==◌}
use Rattle.ld_table.specs.Table.{find}
use Rattle.ld_disk.specs.Images.{Torn}
use Rattle.ld_journal.specs.Format.{records, IsJournal, behind}
use Rattle.ld_op.specs.declared.record.Record.{Record}
use Rattle.ld_op.specs.declared.version.Version.{Version}
use Rattle.ld_layout.specs.Layout.{Layout, Segment, growth_told}
use Rattle.ld_segment.specs.Stays.{StaysOutside, StandsAt}
use Rattle.ld_segment.specs.Left.{FirstSwitch, staged, laid_out}
use Rattle.ld_segment.specs.Slots.{head_bytes, says_bytes, slot_length, IsShut}
use Rattle.ld_segment.specs.Bases.{IsBase, HasNoLoss}
use Rattle.ld_segment.specs.Ops.{bodies_of, place_behind}
use Rattle.ld_segment.specs.Lies.{Slots, IsLater, after_base, base_record, first_slots, first_switch, slots_after, with_body}
use Rattle.ld_segment.proofs.Ranges.{stands_on, torn_far, torn_round, written_far, written_round, widened, stands_written}
use Rattle.ld_segment.proofs.Rows.{row_stays, early, shut_late, is_there, round_it, round_done, length-behind}
use Rattle.ld_segment.proofs.Bodies.{places}
use Rattle.ld_segment.proofs.Standing.{IsSameByte, byte_outside}
use Rattle.ld_segment.proofs.CurrentSlots.{says_long}
use Rattle.ld_segment.proofs.NewSegments.{stands_front, stands_back, IsNew, new_current}

module _ (kind : ℕ) (y : Layout) (n : Segment) (rs : List Record) (b : List ℕ) (end_is : y.end ≡ place_behind rs) (journal : IsJournal (bodies_of rs) b) where
  abbrev w : FirstSwitch
  w = first_switch kind y n

  abbrev bodies : List (List ℕ)
  bodies = bodies_of rs

  abbrev head : List ℕ
  head = head_bytes (y.end + 15)

  gate_at : 0 + length (records bodies) ≡ y.end
  gate_at = omega (arith, places rs, end_is)

  inside : y.end + 1 ≤ length b
  inside = omega (arith, gate_at, ap length journal.bytes_are, length-append (records bodies) (journal.gate ∷ journal.after))

  short : length head < 2 ^ 32
  short = omega arith

  head_long : length head ≡ 9
  head_long = omega arith

  -- ---- the slots and the Base ----

  far_torn : (c : List ℕ) → Torn w.slots_at (length w.slots) b c → StaysOutside (min (y.end + 15) (length b)) (w.slots_at + length w.slots) b c
  far_torn c torn = torn_far w.slots_at (length w.slots) b c torn

  far_journal : (to : ℕ) (c : List ℕ) → StaysOutside (min (y.end + 15) (length b)) to b c → IsJournal bodies c
  far_journal to c stays = row_stays (min (y.end + 15) (length b)) to 0 bodies b c stays (inl (omega (arith, gate_at, inside))) journal

  far_byte : (to k : ℕ) (c : List ℕ) → StaysOutside (min (y.end + 15) (length b)) to b c → k < y.end → IsSameByte k b c
  far_byte to k c stays below = byte_outside (min (y.end + 15) (length b)) to k b c stays (inl (omega (arith, below, inside)))

  pub slots_torn : (c : List ℕ) → Torn w.slots_at (length w.slots) b c → IsJournal bodies c × ((k : ℕ) → k < y.end → IsSameByte k b c)
  slots_torn c torn = (far_journal (w.slots_at + length w.slots) c (far_torn c torn), λ k below. far_byte (w.slots_at + length w.slots) k c (far_torn c torn) below)

  abbrev laid : List ℕ
  laid = laid_out w b

  laid_far : StaysOutside (min (y.end + 15) (length b)) (w.slots_at + length w.slots) b laid
  laid_far = written_far w.slots_at w.slots b

  laid_journal : IsJournal bodies laid
  laid_journal = far_journal (w.slots_at + length w.slots) laid laid_far

  -- ---- the head ----

  laid_byte : (k : ℕ) (c : List ℕ) → StaysOutside y.end (y.end + 15) laid c → k < y.end → IsSameByte k b c
  laid_byte k c round below = byte_outside y.end (y.end + 15) k laid c round (inl below) ∙ far_byte (w.slots_at + length w.slots) k laid laid_far below

  head_round : (c : List ℕ) → Torn (y.end + 1) (length (behind head)) laid c → StaysOutside y.end (y.end + 15) laid c
  head_round c torn = widened (y.end + 1) (y.end + 1 + length (behind head)) y.end (y.end + 15) laid c (omega arith) (omega (arith, length-behind head, head_long)) (torn_round (y.end + 1) (length (behind head)) laid c (omega (arith, inside, laid_far.no_shorter)) torn)

  pub head_torn : (c : List ℕ) → Torn (y.end + 1) (length (behind head)) laid c → IsJournal bodies c × ((k : ℕ) → k < y.end → IsSameByte k b c)
  head_torn c torn = (
    early 0 bodies head laid (omega arith) short laid_journal c (subst (λ k. Torn (k + 1) (length (behind head)) laid c) (sym gate_at) torn),
    λ k below. laid_byte k c (head_round c torn) below,
  )

  gate_round : (c : List ℕ) → Torn y.end 1 (staged y.end head laid) c → StaysOutside y.end (y.end + 15) laid c
  gate_round c torn =
      let round = round_it 0 bodies head laid (omega arith) short laid_journal c (inr (subst (λ k. Torn k 1 (staged k head laid) c) (sym gate_at) torn)) in
      let to : y.end + 6 + length head ≡ y.end + 15 = omega arith in
      subst (λ m. StaysOutside y.end m laid c) to (subst (λ k. StaysOutside k (k + 6 + length head) laid c) gate_at round)

  pub head_shut : (c : List ℕ) → Torn y.end 1 (staged y.end head laid) c → get_or c y.end 0 ≢ 1 → IsJournal bodies c × ((k : ℕ) → k < y.end → IsSameByte k b c)
  head_shut c torn shut = (
    shut_late 0 bodies head laid (omega arith) short laid_journal c (subst (λ k. Torn k 1 (staged k head laid) c) (sym gate_at) torn) (subst (λ k. get_or c k 0 ≢ 1) (sym gate_at) shut),
    λ k below. laid_byte k c (gate_round c torn) below,
  )

  pub staged_long : y.end < length (staged y.end head laid)
  staged_long = let stays = written_round (y.end + 1) (behind head) laid (omega (arith, inside, laid_far.no_shorter)) in omega (arith, stays.no_shorter, inside, laid_far.no_shorter)

  abbrev pub done : List ℕ
  done = with_body y.end head laid

  done_round : StaysOutside y.end (y.end + 15) laid done
  done_round =
      let to : y.end + 6 + length head ≡ y.end + 15 = omega arith in
      subst (λ m. StaysOutside y.end m laid done) to (subst (λ k. StaysOutside k (k + 6 + length head) laid (with_body k head laid)) gate_at (round_done 0 bodies head laid (omega arith) short laid_journal))

  pub done_journal : IsJournal (bodies ++ head ∷ []) done
  done_journal = subst (λ k. IsJournal (bodies ++ head ∷ []) (with_body k head laid)) gate_at (is_there 0 bodies head laid (omega arith) short laid_journal)

  pub done_byte : (k : ℕ) → k < y.end → IsSameByte k b done
  done_byte k below = laid_byte k done done_round below

  slots_done : StandsAt (y.end + 15) (first_slots kind y n) done
  slots_done = stands_on y.end (y.end + 15) (y.end + 15) w.slots laid done done_round (inr (omega arith)) (stands_written w.slots_at w.slots b)

  -- ---- what the slots say ----

  abbrev second : List ℕ
  second = says_bytes 0 0 ++ base_record kind y n

  one_says : StandsAt (y.end + 15 + 1) (says_bytes 1 n.place ++ (0 ∷ second)) done
  one_says = stands_back (y.end + 15) (1 ∷ []) (says_bytes 1 n.place ++ (0 ∷ second)) done slots_done

  two_stands : StandsAt (y.end + 15 + slot_length) (0 ∷ second) done
  two_stands =
      let step : y.end + 15 + 1 + length (says_bytes 1 n.place) ≡ y.end + 15 + slot_length = omega (arith, says_long 1 n.place) in
      subst (λ k. StandsAt k (0 ∷ second) done) step (stands_back (y.end + 15 + 1) (says_bytes 1 n.place) (0 ∷ second) done one_says)

  base_stands : n.place ≡ y.end + 49 → StandsAt n.place (base_record kind y n) done
  base_stands place =
      let behind = stands_back (y.end + 15 + slot_length) (0 ∷ []) second done two_stands in
      let step : y.end + 15 + slot_length + 1 + length (says_bytes 0 0) ≡ n.place = omega (arith, says_long 0 0, place) in
      subst (λ k. StandsAt k (base_record kind y n) done) step (stands_back (y.end + 15 + slot_length + 1) (says_bytes 0 0) (base_record kind y n) done behind)

  second_shut : IsShut (y.end + 15 + slot_length) done
  second_shut = record { gate = 0; there = stands_front (y.end + 15 + slot_length) (0 ∷ []) second done two_stands; shut = omega arith }

  pub done_later : (opening from : Version) (z : Slots) → n.place ≡ y.end + 49 → n.number ≡ 1 → after_base kind opening ≡ Some from → (kind ≡ 9 → HasNoLoss y.index) → growth_told kind ≡ y.grows → IsBase y.index n.areas → IsNew y n → ((k v : ℕ) → find k n.areas ≡ Some v → k + v ≤ y.end + 1)
      → IsLater opening from (y.end + 15) (slots_after y z None) n y.index done
  done_later opening from z place number kind_is older room_is is_base new within = record {
    at = inl (refl, refl);
    tells = record {
      slot = record {
        gate_there = stands_front (y.end + 15) (1 ∷ []) (says_bytes 1 n.place ++ (0 ∷ second)) done slots_done;
        says_there = subst (λ k. StandsAt (y.end + 15 + 1) (says_bytes k n.place) done) (sym number) (stands_front (y.end + 15 + 1) (says_bytes 1 n.place) (0 ∷ second) done one_says);
      };
      rest = inl second_shut;
    };
    other = second_shut;
    current = new_current kind opening from y n done kind_is older room_is is_base new (base_stands place);
    within = λ k v found. omega (arith, within k v found, inside, laid_far.no_shorter, done_round.no_shorter);
  }
