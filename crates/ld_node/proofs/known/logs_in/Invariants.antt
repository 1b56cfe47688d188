use Rattle.std.proofs.Common.{◌≡◌, ◌++◌, drop}
use Rattle.ld_node.specs.Known.{logs_in}
use Rattle.ld_node.proofs.known.logs_in.Given as goal

abbrev pub invariant-loop-spec : goal.invariant-loop-spec
invariant-loop-spec l = l.logs.items ++ logs_in (drop l.spec-index l.specs) ≡ logs_in l.specs
