use Rattle.std.proofs.Common.{◌≡◌, ◌++◌, ◌+◌, length, map}
use Rattle.std.specs.List.{All}
use Rattle.ld_link.proofs.memory.coming_peers.Given as goal

abbrev pub invariant-peers : goal.invariant-peers
invariant-peers l = (map (λ p. p.items) l.fn.peers.items ≡ map (λ c. c.bytes) l.coming.items ++ map (λ p. p.items) l.bytes-iterator.rest.items)
    × (All (λ c. c.room ≡ l.fn.room) l.coming.items)
    × (length l.coming.items + length l.bytes-iterator.rest.items ≡ length l.fn.peers.items)
