use Rattle.std.proofs.Common.{◌≡◌, ◌++◌, map}
use Rattle.ld_crowd.specs.Memory.{lefts}
use Rattle.ld_crowd.proofs.memory.seats_of.Given as goal

abbrev pub invariant-peers : goal.invariant-peers
invariant-peers l = map (λ p. p.items) l.fn.peers.items ≡ lefts l.seats.items ++ map (λ p. p.items) l.bytes-iterator.rest.items
