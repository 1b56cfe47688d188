-- The head and the two slots that it names.
use Rattle.std.specs.Prelude.{◌≡◌, ◌≢◌, ◌⊎◌, ◌<◌, ◌≤◌, ◌==◌, ℕ, ◌+◌, List, [], ◌∷◌, ◌++◌, length, Option, None, Some, Bool, ◌&&◌, not, ◌||◌, if◌then◌else◌, nat_lt}
use Rattle.byteorder.specs.Endian.{big_bytes}
use Rattle.ld_segment.specs.declared.slots.Slot.{Slot}
use Rattle.ld_segment.specs.Stays.{StandsAt}
use Rattle.ld_segment.specs.Left.{Switching}

-- ---- their bytes ----

-- what stands behind a slot's gate: the number of the switch that wrote it, and the offset of that switch's segment
abbrev pub says_bytes : ℕ → ℕ → List ℕ
says_bytes number place = big_bytes 8 number ++ big_bytes 8 place

-- the body of the head, which holds the offset of the slots
abbrev pub head_bytes : ℕ → List ℕ
head_bytes place = big_bytes 1 8 ++ big_bytes 8 place

abbrev pub slot_length : ℕ
slot_length = 17

-- ---- which one counts ----

-- the second is open, and the first isn't, or is of a lesser number
abbrev pub second_counts : Slot → Slot → Bool
second_counts one two = two.open && (not one.open || nat_lt one.number two.number)

-- of the open slots the one of the greater number
abbrev pub current : Slot → Slot → Option Slot
current one two = if second_counts one two then Some two else if one.open then Some one else None

-- ---- which one counts, by the bytes ----

-- a slot whose gate holds this byte
pub record IsSlot (at gate number place : ℕ) (bytes : List ℕ) : Type 0 where
  pub gate_there : StandsAt at (gate ∷ []) bytes
  pub says_there : StandsAt (at + 1) (says_bytes number place) bytes

-- these bytes have this slot at an offset
pub record IsSlotAt (at : ℕ) (s : Slot) (bytes : List ℕ) : Type 0 where
  pub gate : ℕ
  pub is : IsSlot at gate s.number s.place bytes
  pub open_is : s.open ≡ (gate == 1)

-- a slot that is shut, whatever it says
pub record IsShut (at : ℕ) (bytes : List ℕ) : Type 0 where
  pub gate : ℕ
  pub there : StandsAt at (gate ∷ []) bytes
  pub shut : gate ≢ 1

-- a slot of a lesser number, open or shut
pub record IsLesser (at than : ℕ) (bytes : List ℕ) : Type 0 where
  pub gate : ℕ
  pub number : ℕ
  pub place : ℕ
  pub slot : IsSlot at gate number place bytes
  pub lesser : number < than

-- this slot counts, and the other doesn't
pub record Tells (this other number place : ℕ) (bytes : List ℕ) : Type 0 where
  pub slot : IsSlot this 1 number place bytes
  pub rest : IsShut other bytes ⊎ IsLesser other number bytes

-- of two slots, in either order, the first is the one that counts, with this number and offset
pub record IsTold (this other : Slot) (number place : ℕ) : Type 0 where
  pub first : current this other ≡ Some this
  pub second : current other this ≡ Some this
  pub number_is : this.number ≡ number
  pub place_is : this.place ≡ place

-- two slots share no byte
abbrev pub SlotsApart : ℕ → ℕ → Type 0
SlotsApart one two = (one + slot_length ≤ two) ⊎ (two + slot_length ≤ one)

-- the other slot is to say a greater number, and its gate is written only where it isn't known to be shut
pub record IsNextSwitch (this other number : ℕ) (next place : ℕ) (w : Switching) (bytes : List ℕ) : Type 0 where
  pub slot_is : w.slot_at ≡ other
  pub says_is : w.says ≡ says_bytes next place
  pub greater : number < next
  pub shut : ((w.shut ≡ []) × IsShut other bytes) ⊎ ((w.shut ≡ 0 ∷ []) × IsLesser other number bytes)
  pub apart : SlotsApart this other
  pub inside : (this + slot_length ≤ length bytes) × (other + slot_length ≤ length bytes)
  pub base_apart : (this + slot_length ≤ w.base_at) × (other + slot_length ≤ w.base_at)

-- so many bytes from an offset on, which are there, lie outside all that a later switch writes
pub record IsElsewhere (w : Switching) (at n : ℕ) (bytes : List ℕ) : Type 0 where
  pub there : at + n ≤ length bytes
  pub base : (at + n ≤ w.base_at) ⊎ (w.base_at + length w.base ≤ at)
  pub slot : (at + n ≤ w.slot_at) ⊎ (w.slot_at + slot_length ≤ at)
