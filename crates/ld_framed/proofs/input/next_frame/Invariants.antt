use Rattle.std.proofs.Common.{◌≡◌, ◌-◌, None, length, IfSome}
use Rattle.ld_framed.specs.Hearing.{Hears}
use Rattle.ld_framed.specs.Reads.{ReadsWaiting}
use Rattle.ld_framed.proofs.input.next_frame.Given as goal

abbrev pub invariant-pieces : goal.invariant-pieces
invariant-pieces g l =
    IfSome (g.L.Link.peers l.fn.link) (λ old. Hears old (g.L.Link.peers l.link) l.fn.decoder.bytes l.decoder.bytes)
    × (l.decoder.fault ≡ None)
    × (length l.buf ≡ length l.fn.buf)
    × (g.L.Link.faults l.link ≡ g.L.Link.faults l.fn.link)
    × ReadsWaiting (g.L.Link.did l.fn.link) l.fn.decoder.bytes (g.L.Link.did l.link) l.decoder.bytes

-- a whole frame has at most so many bytes
abbrev pub decreases-pieces : goal.decreases-pieces
decreases-pieces g l = 8388612 - length l.decoder.bytes
