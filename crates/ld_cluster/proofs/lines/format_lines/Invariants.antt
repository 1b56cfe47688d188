use Rattle.std.proofs.Common.{◌≡◌, ◌++◌, drop}
use Rattle.ld_cluster.specs.Formats.{lost_among, drawn_lines}
use Rattle.ld_cluster.proofs.lines.format_lines.Given as goal

abbrev pub invariant-loop-spec : goal.invariant-loop-spec
invariant-loop-spec l = l.lines.items ++ lost_among l.node l.drawn.epochs (drop l.spec-index l.specs) ≡ drawn_lines l.config l.node l.drawn
