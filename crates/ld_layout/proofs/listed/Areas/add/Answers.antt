use Rattle.std.proofs.Common.{◌∙◌, ap}
use Rattle.ld_table.specs.Table.{put}
use Rattle.ld_layout.proofs.listed.Areas.add.Goals as goal

pub returns : goal.returns
unfolding put
returns c = c.in_ok-insert.ensures.entries ∙ ap (put c.args.place c.args.length) c.self.view_is
