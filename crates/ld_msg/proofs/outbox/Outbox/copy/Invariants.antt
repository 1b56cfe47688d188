use Rattle.std.proofs.Common.{◌≡◌, take}
use Rattle.ld_msg.proofs.outbox.Outbox.copy.Given as goal

abbrev pub invariant-loop-one : goal.invariant-loop-one
invariant-loop-one l = l.list.items ≡ take l.one-index l.one-items
