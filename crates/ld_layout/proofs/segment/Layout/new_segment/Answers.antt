use Rattle.std.proofs.Common.{◌∙◌, ap}
use Rattle.ld_layout.specs.Layout.{used}
use Rattle.ld_layout.proofs.segment.Layout.new_segment.Goals as goal

pub segment_with-requires : goal.segment_with-requires
segment_with-requires c = record {
  areas = c.in_ok-areas.ensures ∙ ap (used c.args.index.now.state) (c.in_ok-closed.ensures c.args.index.now.state);
  live = c.in_ok-live.ensures c.args.index.now.state;
  cause = c.requires.cause;
}
