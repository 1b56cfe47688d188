use Rattle.std.proofs.Common.{◌≡◌, ◌+◌, drop}
use Rattle.ld_table.specs.Words.{any_of}
use Rattle.ld_ids.specs.Set.{members}
use Rattle.ld_msg.specs.Reading.{within, knows_end_above}
use Rattle.ld_gap.specs.Slots.{filled_from}
use Rattle.ld_gap.proofs.held.Held.knows_end_above.Given as goal

abbrev pub invariant-loop-place : goal.invariant-loop-place
invariant-loop-place l = any_of (λ h. knows_end_above l.number h.1.body) (within (members l.set) (filled_from (l.place + 1) (drop l.place l.slot-items))) ≡ any_of (λ h. knows_end_above l.number h.1.body) (within (members l.set) l.self)
