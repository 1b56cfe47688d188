use Rattle.std.proofs.Common.{sym, ◌∙◌, ap, subst, option_copied}
use Rattle.ld_table.specs.Table.{find}
use Rattle.ld_host.specs.Standing.{node_in}
use Rattle.ld_host.proofs.Standings.{stands_found, new_found}
use Rattle.ld_host.proofs.Swapping.{none_replaced, none_changed}
use Rattle.ld_host.proofs.hosts.Hosts.replace.Goals as goal

pub returns-in_ok-done-in-Some : goal.returns-in_ok-done-in-Some
returns-in_ok-done-in-Some g c settings nodes r are tells =
    let old = c.args.self.now.map.entries in
    let stands = stands_found settings c.args.node old nodes c.in-Some.host.now are (ap (λ k. find k old) (sym c.number.ensures.value) ∙ (sym c.host_of.ensures ∙ ap option_copied c.in-Some.is)) in
    c.in_ok-done-in-Some.ensures settings c.args.node (node_in nodes c.args.node) r stands tells

pub returns-in-None : goal.returns-in-None
returns-in-None g c settings nodes r are tells =
    let old = c.args.self.now.map.entries in
    let new = new_found settings c.args.node old nodes are (ap (λ k. find k old) (sym c.number.ensures.value) ∙ (sym c.host_of.ensures ∙ ap option_copied c.in-None.is)) in
    (none_replaced settings c.args.node (node_in nodes c.args.node) c.args.log c.args.other new r, subst (g.G.Register.tells c.args.reg.now) (none_changed settings c.args.node (node_in nodes c.args.node) c.args.log c.args.other new r) tells)
