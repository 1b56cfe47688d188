use Rattle.std.proofs.Common.{◌≡◌}
use Rattle.ld_real.specs.Pending.{said_in}
use Rattle.ld_real.proofs.sockets.flush.Given as goal

abbrev pub invariant-pieces : goal.invariant-pieces
invariant-pieces l = said_in l.peer.waiting ≡ said_in l.fn.peer.waiting
