-- What a crash in some writing calls leaves.
use Rattle.std.specs.Prelude.{◌≡◌, ◌⊎◌, ◌+◌, ℕ, List, [], ◌∷◌, ◌++◌, length, take, None, Some}
use Rattle.ld_disk.specs.Images.{overwrite, Torn}
use Rattle.ld_disk.specs.Plain.{Call}
use Rattle.ld_journal.specs.Format.{behind}
use Rattle.ld_segment.specs.Stays.{StaysOutside, StandsAt}

-- ---- a write that is synced ----

abbrev pub safe_calls : ℕ → List ℕ → List Call
safe_calls at bytes = Some (at, bytes) ∷ None ∷ []

-- ---- two writes that are synced together ----

-- both writes were cut short
pub record TornTwice (at n at_2 n_2 : ℕ) (old new : List ℕ) : Type 0 where
  pub between : List ℕ
  pub first : Torn at n old between
  pub second : Torn at_2 n_2 between new

abbrev pub both_calls : ℕ → List ℕ → ℕ → List ℕ → List Call
both_calls at bytes at_2 bytes_2 = Some (at, bytes) ∷ Some (at_2, bytes_2) ∷ None ∷ []

-- ---- a record at a place, whatever stands round it ----

-- the bytes once the record is staged behind its gate
abbrev pub staged : ℕ → List ℕ → List ℕ → List ℕ
staged at body bytes = overwrite (at + 1) (behind body) bytes

-- a crash in the record's calls: the gate stays, and what is behind it may be torn; or the record stands whole, and the gate may be torn
abbrev pub IsRecordTorn : ℕ → List ℕ → List ℕ → List ℕ → Type 0
IsRecordTorn at body old new = Torn (at + 1) (length (behind body)) old new ⊎ Torn at 1 (staged at body old) new

-- so all stays round it, and the gate does too, or the whole record stands behind it
pub record IsRecordLeft (at : ℕ) (body old new : List ℕ) : Type 0 where
  pub round : StaysOutside at (at + 6 + length body) old new
  pub either : (take (at + 1) new ≡ take (at + 1) old) ⊎ StandsAt (at + 1) (behind body) new

-- ---- a later switch ----

-- the offset of the new segment's Base and its record with an ending gate; the offset of the slot that doesn't count, what is written over its gate (0 where it is open, nothing where it is shut), and what the slot then says behind it
pub record Switching : Type 0 where
  pub base_at : ℕ
  pub base : List ℕ
  pub slot_at : ℕ
  pub shut : List ℕ
  pub says : List ℕ

-- the Base is there, and the slot is shut
abbrev pub based : Switching → List ℕ → List ℕ
based w bytes = overwrite w.slot_at w.shut (overwrite w.base_at w.base bytes)

-- the slot names it, and is still shut
abbrev pub named : Switching → List ℕ → List ℕ
named w bytes = overwrite (w.slot_at + 1) w.says (based w bytes)

-- the slot is open
abbrev pub switched : Switching → List ℕ → List ℕ
switched w bytes = overwrite w.slot_at (1 ∷ []) (named w bytes)

-- a crash in the calls of a later switch
abbrev pub IsSwitchTorn : Switching → List ℕ → List ℕ → Type 0
IsSwitchTorn w old new =
    TornTwice w.base_at (length w.base) w.slot_at (length w.shut) old new ⊎ (Torn (w.slot_at + 1) (length w.says) (based w old) new ⊎ Torn w.slot_at 1 (named w old) new)

abbrev pub switch_calls : Switching → List Call
switch_calls w = both_calls w.base_at w.base w.slot_at w.shut ++ (safe_calls (w.slot_at + 1) w.says ++ safe_calls w.slot_at (1 ∷ []))

-- ---- the first switch ----

-- the offset behind the last record of the first segment, and what stands behind the head: both slots and the Base's record with an ending gate
pub record FirstSwitch : Type 0 where
  pub gate_at : ℕ
  pub slots_at : ℕ
  pub slots : List ℕ
  pub head : List ℕ

abbrev pub laid_out : FirstSwitch → List ℕ → List ℕ
laid_out w bytes = overwrite w.slots_at w.slots bytes

abbrev pub IsFirstSwitchTorn : FirstSwitch → List ℕ → List ℕ → Type 0
IsFirstSwitchTorn w old new = Torn w.slots_at (length w.slots) old new ⊎ IsRecordTorn w.gate_at w.head (laid_out w old) new
