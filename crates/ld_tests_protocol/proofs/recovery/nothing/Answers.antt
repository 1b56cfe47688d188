use Rattle.std.proofs.Common.{arith, subst, sym}
use Rattle.ld_msg.specs.Bounds.{AreKept}
use Rattle.ld_tests_protocol.proofs.Replying.{to_two, no_entries}
use Rattle.ld_tests_protocol.proofs.recovery.nothing.Goals as goal

pub returns : goal.returns
returns c = λ n h. (to_two n h, no_entries c.new.result c.new-2.result c.args.from c.args.upto c.empty.result c.new.ensures c.new-2.ensures c.requires.one c.requires.range (omega (arith, c.ranges.upto.fits)) c.empty.ensures, subst (λ es. AreKept es) (sym c.empty.ensures) tt, omega (arith, c.from_u64.ensures), omega arith)
