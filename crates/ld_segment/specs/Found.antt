-- Which slot counts, as it was read.
use Rattle.std.specs.Prelude.{◌≡◌, ◌⊎◌, ◌<◌, ◌+◌, ◌^◌, ◌==◌, ℕ, List, [], ◌∷◌, length}
use Rattle.ld_segment.specs.Stays.{StandsAt}
use Rattle.ld_segment.specs.Slots.{slot_length, Tells}
use Rattle.ld_segment.specs.Lies.{Slots, ArePlacedAt, IsOther}
use Rattle.ld_segment.specs.declared.found.Found.{Found}

-- the slots, as they were read
abbrev pub slots_of : Found → Slots
slots_of c = record { this = c.this; other = c.other; is_open = c.is_open }

-- of the slots behind the head, which names the first, this one counts
pub record IsFound (head : ℕ) (c : Found) (bytes : List ℕ) : Type 0 where
  pub at : ArePlacedAt head (slots_of c)
  pub tells : Tells c.this c.other c.number c.place bytes
  pub rest : IsOther c.is_open c.other c.number bytes
  -- the other one's gate, as it was read
  pub gate : ℕ
  pub gate_there : StandsAt c.other (gate ∷ []) bytes
  pub open_is : c.is_open ≡ (gate == 1)
  pub number_fits : c.number < 2 ^ 64
  pub place_fits : c.place < 2 ^ 64

-- none does
abbrev pub IsNoneTold : ℕ → List ℕ → Type 0
IsNoneTold head bytes = (z : Slots) (number place : ℕ) → ArePlacedAt head z → number < 2 ^ 64 → Tells z.this z.other number place bytes → ⊥

-- or the disk ends within one of them; and the offset of what isn't there
abbrev pub IsNoneThere : ℕ → ℕ → List ℕ → Type 0
IsNoneThere head place bytes = ((place ≡ head) × (length bytes < head + slot_length)) ⊎ (((place ≡ head + slot_length) × (length bytes < head + slot_length + slot_length)) ⊎ ((place ≡ head) × IsNoneTold head bytes))
