-- The answers that a reader holds, after what one of them replaced is held again.
use Rattle.std.specs.Prelude.{ℕ, List, Option, Some, None}
use Rattle.ld_msg.specs.Reading.{Held}
use Rattle.ld_gap.specs.Slots.{with_slot}
use Rattle.ld_gap.specs.declared.held.Replaced.{Replaced}

abbrev pub restored : Option Replaced → List (ℕ × Held) → List (ℕ × Held)
restored None hs = hs
restored (Some r) hs = with_slot r.node r.answer hs
