use Rattle.std.proofs.Common.{◌≡◌, take}
use Rattle.ld_batch.proofs.messages.Messages.copy.Given as goal

abbrev pub invariant-loop-message : goal.invariant-loop-message
invariant-loop-message l = l.list.items ≡ take l.message-index l.message-items
