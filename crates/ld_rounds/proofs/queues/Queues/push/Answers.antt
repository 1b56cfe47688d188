use Rattle.ld_rounds.proofs.Queueing.{pushing_more}
use Rattle.ld_rounds.proofs.queues.Queues.push.Goals as goal

pub messages-preserved : goal.messages-preserved
messages-preserved c = pushing_more c.args.messages c.args.self.now c.messages.self c.push_one.new.self c.messages.yielded c.messages.message-iterator.rest.items c.next.new.self.rest.items c.in-Some.message c.messages.invariant c.in-Some.ensures.steps.0 c.in_ok-push_one.ensures.ok
