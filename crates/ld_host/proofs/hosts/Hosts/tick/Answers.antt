use Rattle.std.proofs.Common.{[], subst}
use Rattle.ld_node.specs.Looks.{op_of}
use Rattle.ld_host.specs.Done.{node_in, tick_of, tick_done}
use Rattle.ld_host.specs.Standing.{AreHosts}
use Rattle.ld_host.proofs.Standings.{kept_is}
use Rattle.ld_host.proofs.hosts.Hosts.tick.Goals as goal

pub returns-clause-up : goal.returns-clause-up
returns-clause-up g c settings nodes r are up has closed tells =
    let x = node_in nodes c.args.node in
    let host = c.in_ok-host.ensures in
    let done = c.in_ok-kept.ensures.up settings c.args.node x r (host.host settings nodes are) up has closed tells in
    let put = c.in_ok-put.ensures settings nodes (tick_done settings c.args.node x c.args.log r).node (host.taken settings nodes are) done.0 in
    let same = kept_is settings c.args.node c.args.self.now.map.entries nodes (op_of c.args.log (tick_of x c.args.log r)) [] host.ordered are up in
    (subst (λ m. AreHosts settings c.put.new.self m) same put, done.1, done.2, done.3)
