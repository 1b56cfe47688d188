use Rattle.std.proofs.Common.{◌≡◌, ◌++◌, take}
use Rattle.ld_op.specs.Bytes.{epochs_bytes}
use Rattle.ld_op.proofs.encode.put_epochs.Given as goal

abbrev pub invariant-loop-log : goal.invariant-loop-log
invariant-loop-log l = l.out.items ≡ l.fn.out.items ++ epochs_bytes (take l.log-index l.epochs)
