use Rattle.std.proofs.Common.{◌≡◌, ◌++◌, ◌-◌}
use Rattle.ld_plan.specs.Decision.{record_items_from}
use Rattle.ld_plan.proofs.plans.items.Given as goal

abbrev pub invariant-loop-place : goal.invariant-loop-place
invariant-loop-place l = l.items ++ record_items_from l.epoch l.loss l.decided.entries l.place (l.end - l.place) ≡ record_items_from l.epoch l.loss l.decided.entries l.from (l.end - l.from)
