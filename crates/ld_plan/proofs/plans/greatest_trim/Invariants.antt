use Rattle.std.proofs.Common.{◌≡◌, drop, max}
use Rattle.ld_msg.specs.Digest.{digest_trim}
use Rattle.ld_plan.proofs.plans.greatest_trim.Given as goal

abbrev pub invariant-loop-one : goal.invariant-loop-one
invariant-loop-one l = max l.greatest (digest_trim (drop l.one-index l.told)) ≡ digest_trim l.told
