use Rattle.std.proofs.Common.{drop}
use Rattle.ld_clients.specs.Looked.{IsLooked}
use Rattle.ld_clients.proofs.lookup.find_spec.Given as goal

abbrev pub invariant-loop-spec : goal.invariant-loop-spec
invariant-loop-spec l = IsLooked l.log l.specs (drop l.spec-index l.specs)
