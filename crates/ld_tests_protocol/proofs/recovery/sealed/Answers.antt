use Rattle.std.proofs.Common.{arith}
use Rattle.ld_tests_protocol.proofs.Replying.{to_two}
use Rattle.ld_tests_protocol.proofs.recovery.sealed.Goals as goal

pub returns : goal.returns
returns c = λ n h. (to_two n h, omega (arith, c.new.ensures), omega (arith, c.ranges.by.fits))
