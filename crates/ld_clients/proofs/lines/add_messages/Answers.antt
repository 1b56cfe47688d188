use Rattle.std.proofs.Common.{◌++◌, ◌∷◌, [], ◌+◌, length, take, get_or, sym, ap, ◌∙◌, arith, append_assoc}
use Rattle.ld_transcript.specs.declared.line.Line.TheVariants.{BatchMessage}
use Rattle.ld_machine.specs.Step.{message_lines_from}
use Rattle.ld_clients.proofs.Items.{message_lines_more}
use Rattle.ld_clients.proofs.lines.add_messages.Goals as goal

pub loop-message-preserved : goal.loop-message-preserved
loop-message-preserved c =
    let same = ap length c.as_slice-message-items.ensures.value in
    let more = message_lines_more c.args.name.now c.args.number c.args.messages.now c.loop-message.message-index c.message-item.result (omega arith)
    (c.message-item.is ∙ ap (λ ms. get_or ms c.loop-message.message-index c.message-item.result) c.as_slice-message-items.ensures.value) in (
      c.in_ok-push.ensures.items
          ∙ ((λ k. c.loop-message.invariant.0 k ++ BatchMessage (c.in_ok-copy.ensures k) c.args.number (c.loop-message.invariant.1 k) (c.in_ok-copy-2.ensures k) ∷ [])
          ∙ (append_assoc c.args.lines.now.items (message_lines_from c.args.name.now c.args.number 0 (take c.loop-message.message-index c.args.messages.now)) (BatchMessage c.args.name.now c.args.number c.loop-message.message-index c.message-item.result ∷ [])
          ∙ ap (λ ls. c.args.lines.now.items ++ ls) (sym more))),
      ap (λ n. n + 1) c.loop-message.invariant.1,
    )
