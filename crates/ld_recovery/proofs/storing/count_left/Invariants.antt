use Rattle.std.proofs.Common.{◌≡◌, ◌≤◌, ◌+◌, drop, length}
use Rattle.ld_table.specs.Words.{without}
use Rattle.ld_ids.specs.Set.{members}
use Rattle.ld_recovery.proofs.storing.count_left.Given as goal

abbrev pub invariant-nodes : goal.invariant-nodes
invariant-nodes l = (l.count + length (without l.lost (drop l.place (members l.set))) ≡ length (without l.lost (members l.set))) × (l.count ≤ l.place)
