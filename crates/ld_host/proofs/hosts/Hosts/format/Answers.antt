use Rattle.ld_host.specs.Standing.{node_in}
use Rattle.ld_host.proofs.hosts.Hosts.format.Goals as goal

pub returns-clause-blank : goal.returns-clause-blank
returns-clause-blank g c nodes r are blank tells =
    let config = c.args.config.now in
    let host = c.in_ok-host.ensures in
    let has = c.in_ok-formatted.ensures.blank c.args.node (node_in nodes c.args.node) r (host.host config nodes are) blank tells in
    record { node = has.node; register = has.register; stands = c.in_ok-put.ensures config nodes has.node (host.taken config nodes are) has.stands; told = has.told; does = has.does }
