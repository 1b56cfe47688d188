use Rattle.std.proofs.Common.{refl, arith}
use Rattle.ld_tests_protocol.proofs.recovery.lost.Goals as goal

pub returns : goal.returns
returns c = λ n h. (h, (omega arith, omega arith), omega (arith, c.new.ensures), omega (arith, c.new.ensures), omega arith, refl, omega arith, omega (arith, c.from_u64.ensures))
