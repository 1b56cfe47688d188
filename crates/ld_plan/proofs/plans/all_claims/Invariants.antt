use Rattle.std.proofs.Common.{◌≡◌, drop}
use Rattle.ld_plan.specs.Claims.{claims_of}
use Rattle.ld_plan.proofs.plans.all_claims.Given as goal

abbrev pub invariant-loop-place : goal.invariant-loop-place
invariant-loop-place l = l.claims.items ≡ claims_of (drop l.place l.told)
