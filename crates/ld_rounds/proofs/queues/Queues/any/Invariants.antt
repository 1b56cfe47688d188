use Rattle.std.proofs.Common.{◌≡◌, drop}
use Rattle.ld_table.specs.Words.{any_of}
use Rattle.ld_ids.specs.Set.{members}
use Rattle.ld_rounds.specs.Queued.{queue_of, waits}
use Rattle.ld_rounds.proofs.queues.Queues.any.Given as goal

abbrev pub invariant-nodes : goal.invariant-nodes
invariant-nodes l = any_of (λ y. waits (queue_of l.self y)) (drop l.place (members l.set)) ≡ any_of (λ y. waits (queue_of l.self y)) (members l.set)
