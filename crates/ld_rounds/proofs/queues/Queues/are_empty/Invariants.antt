use Rattle.std.proofs.Common.{◌≡◌, drop}
use Rattle.ld_rounds.specs.Queued.{are_empty}
use Rattle.ld_rounds.proofs.queues.Queues.are_empty.Given as goal

abbrev pub invariant-queues : goal.invariant-queues
invariant-queues l = are_empty (drop l.queue-index l.self) ≡ are_empty l.self
