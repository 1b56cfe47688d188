use Rattle.std.proofs.Common.{length, ◌∙◌, ap, arith}
use Rattle.std.proofs.lemmas.Grind.{common_steps}
use Rattle.ld_batch.specs.Batch.{two_bytes, packed}
use Rattle.ld_batch.proofs.Packing.{count_fits, message_fits, one_more_message, all_packed}
use Rattle.ld_batch.proofs.messages.Messages.payload.Goals as goal

pub overflow_cast-len : goal.overflow_cast-len
overflow_cast-len c = grind (arith, common_steps, count_fits c.args.self.now)

pub add_message-requires : goal.add_message-requires
add_message-requires c = grind (arith, common_steps, message_fits c.args.self.now c.loop-message.message-index c.message-item.result)

pub loop-message-preserved : goal.loop-message-preserved
loop-message-preserved c =
    one_more_message (two_bytes (length c.deref-message-items.result.now)) c.deref-message-items.result.now c.loop-message.message-index c.message-item.result c.bytes.result.now
    c.loop-message.bytes.items c.add_message.new.out.items c.loop-message-test.true (c.bytes.ensures.value ∙ c.message-item.is) c.loop-message.invariant c.in_ok-add_message.ensures.ok

pub returns : goal.returns
returns c =
    c.new.ensures.value
    ∙ all_packed c.deref-message-items.result.now c.loop-message.message-index c.loop-message.bytes.items c.loop-message-test.false c.loop-message.invariant
    ∙ ap packed (c.deref-message-items.ensures.value ∙ c.self.view_is)
