use Rattle.std.proofs.Common.{◌∙◌}
use Rattle.ld_register.proofs.Logs.{count_shown}
use Rattle.ld_register.proofs.log.LogState.swappable.Goals as goal

pub returns : goal.returns
returns c = c.count_swaps.ensures ∙ count_shown c.self.inside.epoch c.self.inside.lce c.self.inside.swaps c.last_swapped.result c.args.upto c.args.member c.args.spare c.self.inside.fixed.entries c.self.inside.summaries.entries c.args.self.now c.self.view_is c.last_swapped.ensures.value
