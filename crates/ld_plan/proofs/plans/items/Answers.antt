use Rattle.std.proofs.Common.{◌∙◌, arith}
use Rattle.ld_plan.proofs.Planning.{one_item}
use Rattle.ld_plan.proofs.plans.items.Goals as goal

pub loop-place-preserved : goal.loop-place-preserved
loop-place-preserved c = one_item c.args.epoch c.args.loss c.args.decided.now.entries c.loop-place.place c.args.end c.loop-place.items c.push.new.self (omega arith) (rw c.new-number.ensures at (rw c.in_ok-what.ensures at c.in_ok-push.ensures.ok)) ∙ c.loop-place.invariant
