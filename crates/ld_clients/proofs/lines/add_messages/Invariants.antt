use Rattle.std.proofs.Common.{◌≡◌, ◌++◌, take}
use Rattle.ld_machine.specs.Step.{message_lines_from}
use Rattle.ld_clients.proofs.lines.add_messages.Given as goal

abbrev pub invariant-loop-message : goal.invariant-loop-message
invariant-loop-message l = (l.lines.items ≡ l.fn.lines.items ++ message_lines_from l.name l.number 0 (take l.message-index l.messages)) × (l.index ≡ l.message-index)
