use Rattle.std.proofs.Common.{◌≡◌, ◌++◌, map, drop}
use Rattle.ld_ids.specs.Set.{members}
use Rattle.ld_msg.specs.Digest.{told_nothing}
use Rattle.ld_digest.proofs.digest.Digest.new.Given as goal

abbrev pub invariant-loop-place : goal.invariant-loop-place
invariant-loop-place l = l.told.items ++ map (told_nothing l.epoch) (drop l.place (members l.nodes)) ≡ map (told_nothing l.epoch) (members l.nodes)
