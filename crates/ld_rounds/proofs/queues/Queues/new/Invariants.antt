use Rattle.std.proofs.Common.{◌≡◌, []}
use Rattle.std.specs.Prelude.{replicate}
use Rattle.ld_rounds.proofs.queues.Queues.new.Given as goal

abbrev pub invariant-numbers : goal.invariant-numbers
invariant-numbers l = l.queues.items ≡ replicate l.counter []
