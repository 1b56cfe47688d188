use Rattle.ld_digest.specs.Gathering.{AreInPlace}
use Rattle.ld_tests_protocol.proofs.plan.records.Given as goal

abbrev pub invariant-loop-esn : goal.invariant-loop-esn
invariant-loop-esn l = AreInPlace l.entries
