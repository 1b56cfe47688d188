use Rattle.std.proofs.Common.{◌≡◌, ◌+◌, length}
use Rattle.ld_op.specs.Room.{there_of}
use Rattle.ld_op.proofs.sizes.count_logs.Given as goal

abbrev pub invariant-logs : goal.invariant-logs
invariant-logs l = l.count + length (there_of l.state-iterator) ≡ length (there_of l.places.entries)
