use Rattle.std.proofs.Common.{◌≡◌, ℕ, take}
use Rattle.ld_table.specs.Words.{is_in}
use Rattle.ld_ids.specs.Set.{members}
use Rattle.ld_copyset.proofs.nodes.NodeList.to_set.Given as goal

abbrev pub invariant-nodes : goal.invariant-nodes
invariant-nodes l = (node : ℕ) → is_in node (members l.set) ≡ is_in node (take l.place l.fn.self)
