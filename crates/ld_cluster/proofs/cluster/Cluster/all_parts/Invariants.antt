use Rattle.std.proofs.Common.{◌≡◌, ◌≤◌, length, drop}
use Rattle.ld_machine.specs.State.{State}
use Rattle.ld_cluster.specs.Calming.{left_in}
use Rattle.ld_cluster.specs.Standing.{config_of, Parts}
use Rattle.ld_cluster.proofs.Listing.{for_specs}
use Rattle.ld_cluster.proofs.cluster.Cluster.all_parts.Given as goal

abbrev pub invariant-logs : goal.invariant-logs
invariant-logs l = (l.place ≤ length l.self.config.logs) × ((s : State) → Parts l.self s → left_in l.left.items ≡ for_specs (config_of l.self) s (drop l.place l.self.config.logs))

abbrev pub decreases-logs : goal.decreases-logs
decreases-logs l = l.place
