use Rattle.std.proofs.Common.{◌≡◌, take}
use Rattle.ld_op.specs.Plain.{lost_logs}
use Rattle.ld_op.specs.Room.{there_of}
use Rattle.ld_op.proofs.plain.add_lost.Given as goal

abbrev pub invariant-loop-log : goal.invariant-loop-log
invariant-loop-log l = there_of l.logs ≡ lost_logs (take l.log-index l.epochs)
