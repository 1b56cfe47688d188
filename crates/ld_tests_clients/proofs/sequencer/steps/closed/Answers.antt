use Rattle.std.proofs.Common.{arith}
use Rattle.ld_tests_clients.proofs.sequencer.steps.closed.Goals as goal

pub returns : goal.returns
returns c = λ n h.
    let s = c.summary.ensures in let b = s.ballot in (
      (h, (omega arith, omega arith)),
      omega (arith, c.new.ensures),
      record { ballot = omega (arith, c.new.ensures); ballot_most = s.ballot_most; lng = s.lng; trim = s.trim; end = s.end; end_most = s.end_most },
    )
