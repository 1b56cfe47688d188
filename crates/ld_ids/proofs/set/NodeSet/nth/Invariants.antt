use Rattle.std.proofs.Common.{◌≡◌, ◌+◌, drop}
use Rattle.std.specs.List.{slice_get}
use Rattle.ld_ids.specs.Set.{members, members_from}
use Rattle.ld_ids.proofs.set.NodeSet.nth.Given as goal

abbrev pub invariant-loop-index : goal.invariant-loop-index
invariant-loop-index l = slice_get (members l.self) l.place ≡ slice_get (members_from (l.index + 1) (drop l.index l.self-inside.has)) l.left
