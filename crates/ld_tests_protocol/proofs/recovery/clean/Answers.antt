use Rattle.std.proofs.Common.{arith}
use Rattle.ld_tests_protocol.proofs.Replying.{to_two, summary_at}
use Rattle.ld_tests_protocol.proofs.recovery.clean.Goals as goal

pub returns : goal.returns
returns c = λ n h. (to_two n h, omega (arith, c.new.ensures, c.ranges.epoch.fits), summary_at c.new.result c.args.epoch c.args.ballot c.closed.result c.new.ensures c.requires.later c.requires.ballot c.closed.ensures)
