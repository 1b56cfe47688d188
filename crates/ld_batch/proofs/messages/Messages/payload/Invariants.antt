use Rattle.std.proofs.Common.{◌≡◌, ◌++◌, length, take}
use Rattle.ld_batch.specs.Batch.{two_bytes, packed_messages}
use Rattle.ld_batch.proofs.messages.Messages.payload.Given as goal

abbrev pub invariant-loop-message : goal.invariant-loop-message
invariant-loop-message l = l.bytes.items ≡ two_bytes (length l.message-items) ++ packed_messages (take l.message-index l.message-items)
