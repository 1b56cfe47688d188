use Rattle.std.proofs.Common.{◌∙◌}
use Rattle.ld_layout.proofs.Segments.{base_sum}
use Rattle.ld_layout.proofs.segment.base_length.Goals as goal

pub returns : goal.returns
returns c = (cc) ∙ base_sum c.args.index.now.state c.args.areas.now c.index_length.result c.count.result c.index_length.ensures c.count.ensures.count
