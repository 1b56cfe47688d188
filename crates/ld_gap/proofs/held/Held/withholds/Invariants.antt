use Rattle.std.proofs.Common.{◌≡◌, ◌+◌, drop}
use Rattle.ld_msg.specs.Reading.{withheld_held}
use Rattle.ld_gap.specs.Slots.{filled_from}
use Rattle.ld_gap.proofs.held.Held.withholds.Given as goal

abbrev pub invariant-loop-slot : goal.invariant-loop-slot
invariant-loop-slot l = withheld_held l.number (filled_from (l.slot-index + 1) (drop l.slot-index l.slot-items)) ≡ withheld_held l.number l.self
