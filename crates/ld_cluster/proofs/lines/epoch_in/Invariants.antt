use Rattle.std.proofs.Common.{◌≡◌, drop}
use Rattle.ld_cluster.specs.Formats.{epoch_among}
use Rattle.ld_cluster.proofs.lines.epoch_in.Given as goal

abbrev pub invariant-loop-other : goal.invariant-loop-other
invariant-loop-other l = epoch_among l.log (drop l.other-index l.other-items) ≡ epoch_among l.log l.epochs
