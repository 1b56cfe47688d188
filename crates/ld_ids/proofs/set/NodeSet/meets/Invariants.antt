use Rattle.std.proofs.Common.{◌≡◌}
use Rattle.ld_ids.specs.Set.{share}
use Rattle.ld_ids.proofs.Members.{share_from}
use Rattle.ld_ids.proofs.set.NodeSet.meets.Given as goal

abbrev pub invariant-loop-index : goal.invariant-loop-index
invariant-loop-index l = share l.self l.other ≡ share_from l.index l.self-inside.has l.other-inside.has
