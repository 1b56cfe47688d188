use Rattle.std.proofs.Common.{◌≡◌, ◌++◌, drop}
use Rattle.ld_machine.specs.Calm.{readers_of as readers_for}
use Rattle.ld_clients.specs.Followers.{readers_of}
use Rattle.ld_clients.proofs.readers.Readers.names.Given as goal

abbrev pub invariant-readers : goal.invariant-readers
invariant-readers l = l.names.items ++ readers_for l.log (readers_of (drop l.place l.self-inside.map.entries)) ≡ readers_for l.log (readers_of l.self-inside.map.entries)
