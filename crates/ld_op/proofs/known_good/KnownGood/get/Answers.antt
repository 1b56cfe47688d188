use Rattle.std.proofs.Common.{ap, rules, Some, None, ◌∙◌}
use Rattle.std.specs.Option.{unwrap_or}
use Rattle.ld_table.specs.Table.{find}
use Rattle.ld_op.proofs.Places.{find-filled_by}
use Rattle.ld_op.proofs.known_good.KnownGood.get.Goals as goal

pub returns-in-Some : goal.returns-in-Some
unfolding find
returns-in-Some c = c.unwrap_or.ensures ∙ ap (λ o. unwrap_or o 0) (find-filled_by c.args.epoch _ _ (Some c.in-Some.place.now) c.len.ensures.ordered c.self.view_is (search rules))

pub returns-in-None : goal.returns-in-None
unfolding find
returns-in-None c = ap (λ o. unwrap_or o 0) (find-filled_by c.args.epoch _ _ None c.len.ensures.ordered c.self.view_is (search rules))
