use Rattle.std.proofs.Common.{◌≡◌, drop}
use Rattle.ld_table.specs.Words.{is_in}
use Rattle.ld_digest.specs.Gathering.{nodes_told}
use Rattle.ld_digest.proofs.digest.Digest.place.Given as goal

abbrev pub invariant-loop-place : goal.invariant-loop-place
invariant-loop-place l = is_in l.node (nodes_told (drop l.place l.told-items)) ≡ is_in l.node (nodes_told l.self.told)
