use Rattle.ld_rounds.specs.Queued.{IsPushing}
use Rattle.ld_rounds.proofs.queues.Queues.push.Given as goal

abbrev pub invariant-messages : goal.invariant-messages
invariant-messages l = IsPushing l.fn.messages l.fn.self l.self l.yielded l.message-iterator.rest.items
