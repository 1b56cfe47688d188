use Rattle.std.proofs.Common.{◌≡◌, ◌+◌, drop, max}
use Rattle.ld_msg.specs.Reading.{trim_held}
use Rattle.ld_gap.specs.Slots.{filled_from}
use Rattle.ld_gap.proofs.held.Held.trim.Given as goal

abbrev pub invariant-loop-slot : goal.invariant-loop-slot
invariant-loop-slot l = max l.greatest (trim_held (filled_from (l.slot-index + 1) (drop l.slot-index l.slot-items))) ≡ trim_held l.self
