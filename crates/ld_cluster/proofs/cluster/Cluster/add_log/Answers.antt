use Rattle.ld_cluster.specs.declared.part.Part.TheVariants as parts
use Rattle.ld_cluster.specs.Calming.{left_in}
use Rattle.ld_cluster.specs.Standing.{config_of}
use Rattle.ld_cluster.proofs.Calming.{left_last}
use Rattle.ld_cluster.proofs.Listing.{for_one}
use Rattle.ld_cluster.proofs.cluster.Cluster.add_log.Goals as goal

pub returns : goal.returns
returns c = λ s p. for_one (config_of c.args.self.now) s c.args.log (left_in c.args.left.now.items) (left_in c.add_nodes.new.left.items) (left_in c.add_readers.new.left.items) (left_in c.push.new.self.items) (left_in c.push-2.new.self.items)
    (c.in_ok-add_readers.ensures s p) c.in_ok-add_nodes.ensures (left_last c.add_nodes.new.left.items c.push.new.self.items (parts.Settles c.args.log) c.in_ok-push.ensures.items) (left_last c.push.new.self.items c.push-2.new.self.items (parts.Announces c.args.log) c.in_ok-push-2.ensures.items)
