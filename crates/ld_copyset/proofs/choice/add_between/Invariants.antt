use Rattle.std.proofs.Common.{◌≡◌, ◌-◌, ◌++◌, take, drop}
use Rattle.ld_table.specs.Words.{without}
use Rattle.ld_ids.specs.Set.{members}
use Rattle.ld_copyset.proofs.choice.add_between.Given as goal

abbrev pub invariant-places : goal.invariant-places
invariant-places l = l.left ≡ l.initial.left ++ without (members l.excluded) (take (l.place - l.from) (drop l.from (members l.set)))
