use Rattle.std.proofs.Common.{◌≡◌, ◌+◌, drop}
use Rattle.ld_msg.specs.Reading.{plug_held}
use Rattle.ld_gap.specs.Slots.{filled_from}
use Rattle.ld_gap.proofs.held.Held.has_plug.Given as goal

abbrev pub invariant-loop-slot : goal.invariant-loop-slot
invariant-loop-slot l = plug_held l.number (filled_from (l.slot-index + 1) (drop l.slot-index l.slot-items)) ≡ plug_held l.number l.self
