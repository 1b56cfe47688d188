use Rattle.std.proofs.Common.{Some, ap, map}
use Rattle.ld_cluster.specs.Standing.{as_move}
use Rattle.ld_cluster.proofs.Parting.{fresh}
use Rattle.ld_cluster.proofs.cluster.Cluster.new.Goals as goal

pub returns-clause-reached : goal.returns-clause-reached
returns-clause-reached c = fresh (record { config = c.args.config; past = c.new-2.result; hosts = c.in_ok-hosts.hosts; register = c.new-3.result; network = c.new-4.result; sequencers = c.new-5.result; readers = c.new-6.result; specs = c.new-7.result })
    c.requires (ap (map as_move) c.new-2.ensures.items) c.in_ok-hosts.ensures (c.new-3.ensures.empty (ap Some c.in_ok-disk.ensures)) c.new-4.ensures c.new-5.ensures c.new-6.ensures c.new-7.ensures
