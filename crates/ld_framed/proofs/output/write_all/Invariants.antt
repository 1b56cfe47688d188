use Rattle.std.proofs.Common.{◌≡◌, ◌≤◌, ◌-◌, take, length, IfSome}
use Rattle.ld_framed.specs.Hearing.{Says}
use Rattle.ld_framed.specs.Writes.{Writes}
use Rattle.ld_framed.proofs.output.write_all.Given as goal

abbrev pub invariant-loop-done : goal.invariant-loop-done
invariant-loop-done g l =
    (l.done ≤ length l.bytes)
    × IfSome (g.L.Link.peers l.fn.link) (λ old. Says old (g.L.Link.peers l.link) (take l.done l.bytes))
    × (g.L.Link.faults l.link ≡ g.L.Link.faults l.fn.link)
    × Writes (g.L.Link.did l.fn.link) (g.L.Link.did l.link) (take l.done l.bytes)

abbrev pub decreases-loop-done : goal.decreases-loop-done
decreases-loop-done g l = length l.bytes - l.done
