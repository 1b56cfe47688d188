use Rattle.std.proofs.Common.{◌≡◌, length, take}
use Rattle.ld_ids.specs.Set.{members}
use Rattle.ld_ids.proofs.set.NodeSet.len.Given as goal

abbrev pub invariant-loop-there : goal.invariant-loop-there
invariant-loop-there l = l.count ≡ length (members (take l.there-index l.there-items))
