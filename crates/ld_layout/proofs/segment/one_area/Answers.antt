use Rattle.std.proofs.Common.{◌∙◌, ap}
use Rattle.ld_table.specs.Table.{put}
use Rattle.ld_layout.proofs.segment.one_area.Goals as goal

pub returns : goal.returns
unfolding put
returns c = c.in_ok-add.ensures ∙ ap (put c.args.place c.args.length) c.new-areas.ensures
