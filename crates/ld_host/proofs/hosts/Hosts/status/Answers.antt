use Rattle.std.proofs.Common.{sym, ◌∙◌, ap, option_copied}
use Rattle.ld_table.specs.Table.{find}
use Rattle.ld_host.specs.Standing.{node_in}
use Rattle.ld_host.proofs.Standings.{stands_found, new_found}
use Rattle.ld_host.proofs.hosts.Hosts.status.Goals as goal

pub returns-in-Some : goal.returns-in-Some
returns-in-Some c settings nodes are =
    let old = c.args.self.now.map.entries in
    c.status.ensures settings c.args.node (node_in nodes c.args.node)
    (stands_found settings c.args.node old nodes c.in-Some.host.now are (ap (λ k. find k old) (sym c.number.ensures.value) ∙ (sym c.host_of.ensures ∙ ap option_copied c.in-Some.is)))

pub returns-in-None : goal.returns-in-None
returns-in-None c settings nodes are =
    let old = c.args.self.now.map.entries in
    ap (λ y. y.status) (sym (new_found settings c.args.node old nodes are (ap (λ k. find k old) (sym c.number.ensures.value) ∙ (sym c.host_of.ensures ∙ ap option_copied c.in-None.is))))
