use Rattle.std.proofs.Common.{◌≡◌, drop, length}
use Rattle.std.specs.Prelude.{◌&&◌}
use Rattle.ld_table.specs.Words.{all_of}
use Rattle.ld_ids.specs.Set.{members}
use Rattle.ld_recovery.proofs.Counting.{is_done}
use Rattle.ld_recovery.proofs.storing.Storing.is_ready_short.Given as goal

abbrev pub invariant-nodes : goal.invariant-nodes
invariant-nodes l = (l.each && all_of (is_done l.lost l.self-inside.settled (length l.self-inside.items.items)) (drop l.place (members l.self-inside.spec.set))) ≡ all_of (is_done l.lost l.self-inside.settled (length l.self-inside.items.items)) (members l.self-inside.spec.set)
