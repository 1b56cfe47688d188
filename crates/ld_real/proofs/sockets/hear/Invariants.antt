use Rattle.std.proofs.Common.{◌≡◌, length}
use Rattle.ld_real.specs.Pending.{said_in}
use Rattle.ld_real.proofs.sockets.hear.Given as goal

abbrev pub invariant-tries : goal.invariant-tries
invariant-tries l = (said_in l.peer.waiting ≡ said_in l.fn.peer.waiting) × (length l.buf ≡ length l.fn.buf)
