use Rattle.std.proofs.Common.{◌≡◌}
use Rattle.ld_op.specs.Room.{there_of}
use Rattle.ld_op.specs.Within.{logs_within}
use Rattle.ld_op.proofs.ends.logs_lie_within.Given as goal

abbrev pub invariant-logs : goal.invariant-logs
invariant-logs l = logs_within l.end (there_of l.state-iterator) ≡ logs_within l.end (there_of l.places.entries)
