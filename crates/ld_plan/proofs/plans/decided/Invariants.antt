use Rattle.std.proofs.Common.{◌≡◌, ◌++◌, List, vec_len}
use Rattle.ld_msg.specs.declared.msg.Entry.{Entry}
use Rattle.ld_plan.specs.Claims.{decided_by}
use Rattle.ld_plan.proofs.plans.decided.Given as goal

abbrev pub invariant-loop-claim : goal.invariant-loop-claim
invariant-loop-claim l = (done : List Entry) × (l.claims.items ++ done ≡ l.initial.claims.items) × (l.decided ≡ decided_by done)

abbrev pub decreases-loop-claim : goal.decreases-loop-claim
decreases-loop-claim l = vec_len l.claims
