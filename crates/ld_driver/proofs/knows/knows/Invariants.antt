use Rattle.std.proofs.Common.{drop}
use Rattle.ld_driver.specs.Looked.{IsAmong}
use Rattle.ld_driver.proofs.knows.knows.Given as goal

abbrev pub invariant-loop-spec : goal.invariant-loop-spec
invariant-loop-spec l = IsAmong l.log l.specs (drop l.spec-index l.specs)
