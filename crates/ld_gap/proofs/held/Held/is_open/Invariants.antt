use Rattle.std.proofs.Common.{◌≡◌, drop}
use Rattle.ld_table.specs.Words.{all_of}
use Rattle.ld_table.specs.Table.{find}
use Rattle.ld_ids.specs.Set.{members}
use Rattle.ld_msg.specs.Reading.{leaves_open}
use Rattle.ld_gap.proofs.held.Held.is_open.Given as goal

abbrev pub invariant-loop-place : goal.invariant-loop-place
invariant-loop-place l = all_of (λ y. leaves_open l.number (find y l.self)) (drop l.place (members l.set)) ≡ all_of (λ y. leaves_open l.number (find y l.self)) (members l.set)
