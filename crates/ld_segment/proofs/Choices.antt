-- A later switch leaves the slot that counted, or the new one, whatever a crash does to it.
use Rattle.std.proofs.Common.{◌≡◌, ◌≢◌, ◌⊎◌, inl, inr, ⊎_elim, ℕ, ◌+◌, ◌≤◌, ◌<◌, min, List, [], ◌∷◌, length, get_or, subst, ap, ◌∙◌, arith, length-append}
use Rattle.std.proofs.lemmas.Bool.{cases_eq}
use Rattle.byteorder.specs.Endian.{big_bytes}
use Rattle.byteorder.specs.Numbers.{length-bytes_high_first}
use Rattle.ld_disk.specs.Images.{overwrite, Torn}
use Rattle.ld_segment.specs.Stays.{StaysOutside, IsSameAt, StandsAt}
use Rattle.ld_segment.specs.Left.{Switching, TornTwice, IsSwitchTorn, based, named, switched}
use Rattle.ld_segment.specs.Slots.{says_bytes, slot_length, IsSlot, IsShut, IsLesser, Tells, IsNextSwitch, IsElsewhere}
use Rattle.ld_segment.proofs.Ranges.{stays_at, stands_on, torn_far, written_far, torn_round, written_round, stands_written, byte_at}

-- a slot that lies before a range or behind it
pub slot_stays : (from to at gate number place : ℕ) (old new : List ℕ) → StaysOutside from to old new → (at + slot_length ≤ from) ⊎ (to ≤ at) → IsSlot at gate number place old → IsSlot at gate number place new
slot_stays from to at gate number place old new stays apart slot = record {
  gate_there = stands_on from to at (gate ∷ []) old new stays (⊎_elim (λ before. inl (omega (arith, before))) (λ behind. inr behind) apart) slot.gate_there;
  says_there = stands_on from to (at + 1) (says_bytes number place) old new stays (⊎_elim (λ before. inl (omega (arith, before))) (λ behind. inr (omega (arith, behind))) apart) slot.says_there;
}

-- only the slot's gate lies in the range
says_stay : (at to number place : ℕ) (old new : List ℕ) → StaysOutside at to old new → to ≤ at + 1 → StandsAt (at + 1) (says_bytes number place) old → StandsAt (at + 1) (says_bytes number place) new
says_stay at to number place old new stays short there = stands_on at to (at + 1) (says_bytes number place) old new stays (inr short) there

pub shut_stays : (from to at : ℕ) (old new : List ℕ) → StaysOutside from to old new → (at + 1 ≤ from) ⊎ (to ≤ at) → IsShut at old → IsShut at new
shut_stays from to at old new stays apart shut = record { gate = shut.gate; there = stands_on from to at (shut.gate ∷ []) old new stays apart shut.there; shut = shut.shut }

pub lesser_stays : (from to at than : ℕ) (old new : List ℕ) → StaysOutside from to old new → (at + slot_length ≤ from) ⊎ (to ≤ at) → IsLesser at than old → IsLesser at than new
lesser_stays from to at than old new stays apart less = record {
  gate = less.gate;
  number = less.number;
  place = less.place;
  slot = slot_stays from to at less.gate less.number less.place old new stays apart less.slot;
  lesser = less.lesser;
}

module _ (this other number next place at : ℕ) (w : Switching) (old : List ℕ) (tells : Tells this other number at old) (is : IsNextSwitch this other number next place w old) where
  abbrev with_base : List ℕ
  with_base = overwrite w.base_at w.base old

  base_round : StaysOutside (min w.base_at (length old)) (w.base_at + length w.base) old with_base
  base_round = written_far w.base_at w.base old

  abbrev LeavesOld : List ℕ → Type 0
  LeavesOld c = Tells this other number at c

  abbrev LeavesNew : List ℕ → Type 0
  LeavesNew c = Tells other this next place c × StandsAt w.base_at w.base c

  -- the Base stands where it was written, whatever is written to the slot
  base_on : (from to : ℕ) (c d : List ℕ) → StaysOutside from to c d → to ≤ w.slot_at + slot_length → StandsAt w.base_at w.base c → StandsAt w.base_at w.base d
  base_on from to c d stays below stands = stands_on from to w.base_at w.base c d stays (inr (omega (arith, below, is.slot_is, is.base_apart.1))) stands

  -- ranges within the other slot leave this one
  this_on : (from to : ℕ) (c d : List ℕ) → StaysOutside from to c d → w.slot_at ≤ from → to ≤ w.slot_at + slot_length → from ≤ to → IsSlot this 1 number at c → IsSlot this 1 number at d
  this_on from to c d stays above below rises slot =
      slot_stays from to this 1 number at c d stays (⊎_elim (λ before. inl (omega (arith, before, above, is.slot_is))) (λ behind. inr (omega (arith, behind, below, is.slot_is))) is.apart) slot

  -- the Base lies behind both slots
  this_before : (to : ℕ) (c : List ℕ) → StaysOutside (min w.base_at (length old)) to old c → IsSlot this 1 number at c
  this_before to c stays = slot_stays (min w.base_at (length old)) to this 1 number at old c stays (inl (omega (arith, is.base_apart.0, is.inside.0))) tells.slot

  other_shut_before : (to : ℕ) (c : List ℕ) → StaysOutside (min w.base_at (length old)) to old c → IsShut other old → IsShut other c
  other_shut_before to c stays shut = shut_stays (min w.base_at (length old)) to other old c stays (inl (omega (arith, is.base_apart.1, is.inside.1))) shut

  other_lesser_before : (to : ℕ) (c : List ℕ) → StaysOutside (min w.base_at (length old)) to old c → IsLesser other number old → IsLesser other number c
  other_lesser_before to c stays lesser = record {
    gate = lesser.gate;
    number = lesser.number;
    place = lesser.place;
    slot = slot_stays (min w.base_at (length old)) to other lesser.gate lesser.number lesser.place old c stays (inl (omega (arith, is.base_apart.1, is.inside.1))) lesser.slot;
    lesser = lesser.lesser;
  }

  -- where its gate may have been written, the other slot still is of a lesser number
  other_lesser_torn : (to : ℕ) (c d : List ℕ) → StaysOutside w.slot_at to c d → to ≤ w.slot_at + 1 → other < length d → IsLesser other number c → IsLesser other number d
  other_lesser_torn to c d stays short inside lesser = record {
    gate = get_or d other 0;
    number = lesser.number;
    place = lesser.place;
    slot = record {
      gate_there = byte_at other d inside;
      says_there = says_stay other to lesser.number lesser.place c d (subst (λ k. StaysOutside k to c d) is.slot_is stays) (omega (arith, short, is.slot_is)) lesser.slot.says_there;
    };
    lesser = lesser.lesser;
  }

  -- ---- the Base and the slot's gate ----

  pub both_torn : (c : List ℕ) → TornTwice w.base_at (length w.base) w.slot_at (length w.shut) old c → LeavesOld c
  both_torn c torn =
      let first = torn_far w.base_at (length w.base) old torn.between torn.first in
      let second = torn_round w.slot_at (length w.shut) torn.between c (omega (arith, is.slot_is, is.inside.1, torn.first.no_shorter)) torn.second in
      let end = w.base_at + length w.base in
      let one : length w.shut ≤ 1 = ⊎_elim (λ p. omega (arith, ap length p.0)) (λ p. omega (arith, ap length p.0)) is.shut in
      let far : other < length c = omega (arith, is.inside.1, torn.first.no_shorter, torn.second.no_shorter) in
      record {
        slot = this_on w.slot_at (w.slot_at + length w.shut) torn.between c second (omega arith) (omega (arith, one)) (omega arith) (this_before end torn.between first);
        rest = ⊎_elim (λ p. inl (shut_stays w.slot_at (w.slot_at + length w.shut) other torn.between c second (inr (omega (arith, is.slot_is, ap length p.0))) (other_shut_before end torn.between first p.1)))
            (λ p. inr (other_lesser_torn (w.slot_at + length w.shut) torn.between c second (omega (arith, one)) far (other_lesser_before end torn.between first p.1))) is.shut;
      }

  -- then the other slot is shut
  based_stays : StaysOutside w.slot_at (w.slot_at + length w.shut) with_base (based w old)
  based_stays = written_round w.slot_at w.shut with_base (omega (arith, is.slot_is, is.inside.1, base_round.no_shorter))

  this_based : IsSlot this 1 number at (based w old)
  this_based =
      let one : length w.shut ≤ 1 = ⊎_elim (λ p. omega (arith, ap length p.0)) (λ p. omega (arith, ap length p.0)) is.shut in
      this_on w.slot_at (w.slot_at + length w.shut) with_base (based w old) based_stays (omega arith) (omega (arith, one)) (omega arith) (this_before (w.base_at + length w.base) with_base base_round)

  shut_based : IsShut other (based w old)
  shut_based = ⊎_elim
      (λ p. shut_stays w.slot_at (w.slot_at + length w.shut) other with_base (based w old) based_stays (inr (omega (arith, is.slot_is, ap length p.0))) (other_shut_before (w.base_at + length w.base) with_base base_round p.1))
      (λ p. record {
        gate = 0;
        there = subst (λ k. StandsAt k (0 ∷ []) (based w old)) is.slot_is (subst (λ l. StandsAt w.slot_at l (based w old)) p.0 (stands_written w.slot_at w.shut with_base));
        shut = omega arith;
      })
      is.shut

  base_based : StandsAt w.base_at w.base (based w old)
  base_based =
      let one : length w.shut ≤ 1 = ⊎_elim (λ p. omega (arith, ap length p.0)) (λ p. omega (arith, ap length p.0)) is.shut in
      base_on w.slot_at (w.slot_at + length w.shut) with_base (based w old) based_stays (omega (arith, one)) (stands_written w.base_at w.base old)

  long_based : length old ≤ length (based w old)
  long_based = omega (arith, based_stays.no_shorter, base_round.no_shorter)

  says_long : length w.says ≡ 16
  says_long = ap length is.says_is ∙ omega (arith, length-append (big_bytes 8 next) (big_bytes 8 place), length-bytes_high_first 8 next, length-bytes_high_first 8 place)

  -- ---- what the slot says ----

  pub says_torn : (c : List ℕ) → Torn (w.slot_at + 1) (length w.says) (based w old) c → LeavesOld c
  says_torn c torn =
      let stays = torn_round (w.slot_at + 1) (length w.says) (based w old) c (omega (arith, is.slot_is, is.inside.1, long_based)) torn in
      record {
        slot = this_on (w.slot_at + 1) (w.slot_at + 1 + length w.says) (based w old) c stays (omega arith) (omega (arith, says_long)) (omega arith) this_based;
        rest = inl (shut_stays (w.slot_at + 1) (w.slot_at + 1 + length w.says) other (based w old) c stays (inl (omega (arith, is.slot_is))) shut_based);
      }

  named_stays : StaysOutside (w.slot_at + 1) (w.slot_at + 1 + length w.says) (based w old) (named w old)
  named_stays = written_round (w.slot_at + 1) w.says (based w old) (omega (arith, is.slot_is, is.inside.1, long_based))

  this_named : IsSlot this 1 number at (named w old)
  this_named = this_on (w.slot_at + 1) (w.slot_at + 1 + length w.says) (based w old) (named w old) named_stays (omega arith) (omega (arith, says_long)) (omega arith) this_based

  base_named : StandsAt w.base_at w.base (named w old)
  base_named = base_on (w.slot_at + 1) (w.slot_at + 1 + length w.says) (based w old) (named w old) named_stays (omega (arith, says_long)) base_based

  says_named : StandsAt (other + 1) (says_bytes next place) (named w old)
  says_named = subst (λ k. StandsAt (k + 1) (says_bytes next place) (named w old)) is.slot_is
      (subst (λ l. StandsAt (w.slot_at + 1) l (named w old)) is.says_is (stands_written (w.slot_at + 1) w.says (based w old)))

  -- ---- its gate ----

  -- whatever its gate holds, one of the two counts
  by_gate : (c : List ℕ) → IsSlot this 1 number at c → (gate : ℕ) → IsSlot other gate next place c → StandsAt w.base_at w.base c → LeavesOld c ⊎ LeavesNew c
  by_gate c here gate there base = elim (cases_eq gate 1) [
    | inl is_open ↦ inr (
      record {
        slot = subst (λ g. IsSlot other g next place c) is_open there;
        rest = inr (record { gate = 1; number = number; place = at; slot = here; lesser = is.greater });
      },
      base,
    )
    | inr shut ↦ inl (record { slot = here; rest = inl (record { gate = gate; there = there.gate_there; shut = shut }) })
  ]

  gate_torn : (c : List ℕ) → Torn w.slot_at 1 (named w old) c → LeavesOld c ⊎ LeavesNew c
  gate_torn c torn =
      let stays = torn_round w.slot_at 1 (named w old) c (omega (arith, is.slot_is, is.inside.1, long_based, named_stays.no_shorter)) torn in
      let here = this_on w.slot_at (w.slot_at + 1) (named w old) c stays (omega arith) (omega arith) (omega arith) this_named in
      by_gate c here (get_or c other 0) (record {
        gate_there = byte_at other c (omega (arith, is.inside.1, long_based, named_stays.no_shorter, torn.no_shorter));
        says_there = says_stay other (w.slot_at + 1) next place (named w old) c (subst (λ k. StaysOutside k (w.slot_at + 1) (named w old) c) is.slot_is stays) (omega (arith, is.slot_is)) says_named;
      }) (base_on w.slot_at (w.slot_at + 1) (named w old) c stays (omega arith) base_named)

  -- behind a gate that isn't open the old one counts
  pub not_opened : (c : List ℕ) → Torn w.slot_at 1 (named w old) c → get_or c other 0 ≢ 1 → LeavesOld c
  not_opened c torn shut =
      let stays = torn_round w.slot_at 1 (named w old) c (omega (arith, is.slot_is, is.inside.1, long_based, named_stays.no_shorter)) torn in
      record {
        slot = this_on w.slot_at (w.slot_at + 1) (named w old) c stays (omega arith) (omega arith) (omega arith) this_named;
        rest = inl (record { gate = get_or c other 0; there = byte_at other c (omega (arith, is.inside.1, long_based, named_stays.no_shorter, torn.no_shorter)); shut = shut });
      }

  pub named_long : length old ≤ length (named w old)
  named_long = omega (arith, long_based, named_stays.no_shorter)

  -- no crash makes the disk shorter
  pub torn_longer : (c : List ℕ) → IsSwitchTorn w old c → length old ≤ length c
  torn_longer c torn = ⊎_elim
      (λ first. omega (arith, first.first.no_shorter, first.second.no_shorter))
      (λ later. ⊎_elim (λ second. omega (arith, second.no_shorter, long_based)) (λ third. omega (arith, third.no_shorter, long_based, named_stays.no_shorter)) later)
      torn

  pub switched_longer : length old ≤ length (switched w old)
  switched_longer = let stays = written_round w.slot_at (1 ∷ []) (named w old) (omega (arith, is.slot_is, is.inside.1, named_long)) in omega (arith, stays.no_shorter, named_long)

  -- a crash leaves the one or the other
  pub one_counts : (c : List ℕ) → IsSwitchTorn w old c → LeavesOld c ⊎ LeavesNew c
  one_counts c torn = ⊎_elim (λ first. inl (both_torn c first)) (λ later. ⊎_elim (λ second. inl (says_torn c second)) (λ third. gate_torn c third) later) torn

  -- and once all calls are made the new one counts
  pub new_counts : LeavesNew (switched w old)
  new_counts =
      let stays = written_round w.slot_at (1 ∷ []) (named w old) (omega (arith, is.slot_is, is.inside.1, long_based, named_stays.no_shorter)) in (
        record {
          slot = record {
            gate_there = subst (λ k. StandsAt k (1 ∷ []) (switched w old)) is.slot_is (stands_written w.slot_at (1 ∷ []) (named w old));
            says_there = says_stay other (w.slot_at + 1) next place (named w old) (switched w old) (subst (λ k. StaysOutside k (w.slot_at + 1) (named w old) (switched w old)) is.slot_is stays) (omega (arith, is.slot_is)) says_named;
          };
          rest = inr (record {
            gate = 1;
            number = number;
            place = at;
            slot = this_on w.slot_at (w.slot_at + 1) (named w old) (switched w old) stays (omega arith) (omega arith) (omega arith) this_named;
            lesser = is.greater;
          });
        },
        base_on w.slot_at (w.slot_at + 1) (named w old) (switched w old) stays (omega arith) base_named,
      )

  -- ---- what stands elsewhere ----

  same_by : (from to k n : ℕ) (c d : List ℕ) → StaysOutside from to c d → (k + n ≤ from) ⊎ (to ≤ k) → IsSameAt k n old c → IsSameAt k n old d
  same_by from to k n c d stays apart same = stays_at from to k n c d stays apart ∙ same

  module _ (k n : ℕ) (away : IsElsewhere w k n old) where
    off_base : (k + n ≤ min w.base_at (length old)) ⊎ (w.base_at + length w.base ≤ k)
    off_base = ⊎_elim (λ before. inl (omega (arith, before, away.there))) (λ behind. inr behind) away.base

    off_slot : (from to : ℕ) → w.slot_at ≤ from → to ≤ w.slot_at + slot_length → (k + n ≤ from) ⊎ (to ≤ k)
    off_slot from to above below = ⊎_elim (λ before. inl (omega (arith, before, above))) (λ behind. inr (omega (arith, behind, below))) away.slot

    short_shut : length w.shut ≤ 1
    short_shut = ⊎_elim (λ p. omega (arith, ap length p.0)) (λ p. omega (arith, ap length p.0)) is.shut

    same_based : IsSameAt k n old (based w old)
    same_based = same_by w.slot_at (w.slot_at + length w.shut) k n with_base (based w old) based_stays (off_slot w.slot_at (w.slot_at + length w.shut) (omega arith) (omega (arith, short_shut)))
        (stays_at (min w.base_at (length old)) (w.base_at + length w.base) k n old with_base base_round off_base)

    same_named : IsSameAt k n old (named w old)
    same_named = same_by (w.slot_at + 1) (w.slot_at + 1 + length w.says) k n (based w old) (named w old) named_stays (off_slot (w.slot_at + 1) (w.slot_at + 1 + length w.says) (omega arith) (omega (arith, says_long))) same_based

    pub same_elsewhere : (c : List ℕ) → IsSwitchTorn w old c → IsSameAt k n old c
    same_elsewhere c torn = ⊎_elim
        (λ first. same_by w.slot_at (w.slot_at + length w.shut) k n first.between c
        (torn_round w.slot_at (length w.shut) first.between c (omega (arith, is.slot_is, is.inside.1, first.first.no_shorter)) first.second) (off_slot w.slot_at (w.slot_at + length w.shut) (omega arith) (omega (arith, short_shut)))
        (stays_at (min w.base_at (length old)) (w.base_at + length w.base) k n old first.between (torn_far w.base_at (length w.base) old first.between first.first) off_base))
        (λ later. ⊎_elim
        (λ second. same_by (w.slot_at + 1) (w.slot_at + 1 + length w.says) k n (based w old) c
        (torn_round (w.slot_at + 1) (length w.says) (based w old) c (omega (arith, is.slot_is, is.inside.1, long_based)) second) (off_slot (w.slot_at + 1) (w.slot_at + 1 + length w.says) (omega arith) (omega (arith, says_long))) same_based)
        (λ third. same_by w.slot_at (w.slot_at + 1) k n (named w old) c
        (torn_round w.slot_at 1 (named w old) c (omega (arith, is.slot_is, is.inside.1, long_based, named_stays.no_shorter)) third) (off_slot w.slot_at (w.slot_at + 1) (omega arith) (omega arith)) same_named)
        later)
        torn

    pub same_switched : IsSameAt k n old (switched w old)
    same_switched = same_by w.slot_at (w.slot_at + 1) k n (named w old) (switched w old)
        (written_round w.slot_at (1 ∷ []) (named w old) (omega (arith, is.slot_is, is.inside.1, long_based, named_stays.no_shorter))) (off_slot w.slot_at (w.slot_at + 1) (omega arith) (omega arith)) same_named
