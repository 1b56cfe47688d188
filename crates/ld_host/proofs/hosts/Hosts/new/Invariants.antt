use Rattle.std.proofs.Common.{◌-◌, length}
use Rattle.ld_ids.specs.Set.{members}
use Rattle.ld_host.specs.Standing.{AreBegun}
use Rattle.ld_host.proofs.hosts.Hosts.new.Given as goal

abbrev pub invariant-nodes : goal.invariant-nodes
invariant-nodes l = AreBegun l.config l.map.entries l.place

abbrev pub decreases-nodes : goal.decreases-nodes
decreases-nodes l = length (members l.config.nodes) - l.place
