use Rattle.std.proofs.Common.{ap, length, arith}
use Rattle.ld_cli.proofs.PlayLoop.{off_first}
use Rattle.ld_cli.proofs.replay.replay.Goals as goal

pub play-played-requires-clause-fits : goal.play-played-requires-clause-fits
play-played-requires-clause-fits g c =
    let empty = c.in_ok-buffer.ensures in
    let fewer = rw c.in-Taken.is at c.in_ok-config.ensures.budget in
    omega (arith, fewer, ap length empty)

pub returns-clause-ends : goal.returns-clause-ends
returns-clause-ends g c = λ all may.
    let taken = rw (c.in-Taken.is, c.in_ok-buffer.ensures) at c.in_ok-config.ensures.taken all (c.play-played.ensures.fed all may) in
    c.play-played.ensures.ends all _ may (rw c.in_ok-cluster.ensures.config taken)

pub returns-in-Off-clause-ends : goal.returns-in-Off-clause-ends
returns-in-Off-clause-ends g c = λ all may. off_first _ _ _ _ c.in_ok-buffer.ensures (rw c.in-Off.is at c.in_ok-config.ensures.taken all may)
