use Rattle.std.proofs.Common.{length}
use Rattle.ld_cluster.specs.Calming.{left_in}
use Rattle.ld_cluster.proofs.Listing.{HasRead}
use Rattle.ld_cluster.proofs.cluster.Cluster.add_readers.Given as goal

abbrev pub invariant-readers : goal.invariant-readers
invariant-readers l = HasRead l.initial.names.items l.names.items (left_in l.initial.left.items) (left_in l.left.items)

abbrev pub decreases-readers : goal.decreases-readers
decreases-readers l = length l.names.items
