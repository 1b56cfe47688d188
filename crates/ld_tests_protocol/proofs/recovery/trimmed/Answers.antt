use Rattle.std.proofs.Common.{arith}
use Rattle.ld_tests_protocol.proofs.Replying.{to_two}
use Rattle.ld_tests_protocol.proofs.recovery.trimmed.Goals as goal

pub returns : goal.returns
returns c = λ n h. (to_two n h, omega (arith, c.new.ensures), omega (arith, c.new-2.ensures, c.ranges.esn.fits))
