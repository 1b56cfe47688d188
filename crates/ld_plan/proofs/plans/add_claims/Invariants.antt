use Rattle.std.proofs.Common.{◌≡◌, ◌++◌, take}
use Rattle.ld_plan.proofs.plans.add_claims.Given as goal

abbrev pub invariant-loop-entry : goal.invariant-loop-entry
invariant-loop-entry l = l.claims.items ≡ l.initial.claims.items ++ take l.entry-index l.entries
