use Rattle.std.proofs.Common.{sym, ◌∙◌, ap, subst, IfOk}
use Rattle.ld_table.specs.Table.{find}
use Rattle.ld_table.proofs.Order.{take_out_is}
use Rattle.ld_host.specs.Stands.{Stands}
use Rattle.ld_host.proofs.Standings.{stands_found, new_found, put_back, if_ok}
use Rattle.ld_host.proofs.hosts.Hosts.take.Goals as goal

pub returns-in-Some-clause-host : goal.returns-in-Some-clause-host
unfolding find
returns-in-Some-clause-host c settings nodes are =
    let old = c.args.self.now.map.entries in
    stands_found settings c.args.node old nodes c.in-Some.found are (ap (λ k. find k old) (sym c.number.ensures.value) ∙ (sym c.remove.ensures.value ∙ c.in-Some.is))

pub returns-in-Some-clause-taken : goal.returns-in-Some-clause-taken
returns-in-Some-clause-taken c settings nodes are host x stands =
    let old = c.args.self.now.map.entries in
    let new = c.remove.new.self.entries in
    put_back settings c.args.node c.number.result c.number.ensures.value old new c.len.ensures.ordered (take_out_is c.number.result old new c.len.ensures.ordered c.remove.ensures.ordered c.remove.ensures.entries) nodes are host x stands

pub returns-in-None-clause-host : goal.returns-in-None-clause-host
unfolding find
returns-in-None-clause-host c settings nodes are =
    let old = c.args.self.now.map.entries in
    subst (λ y. IfOk c.new.result (λ host. Stands settings c.args.node host y))
    (sym (new_found settings c.args.node old nodes are (ap (λ k. find k old) (sym c.number.ensures.value) ∙ (sym c.remove.ensures.value ∙ c.in-None.is)))) (c.new.ensures.stands settings)

pub returns-in-None-clause-taken : goal.returns-in-None-clause-taken
returns-in-None-clause-taken c settings nodes are =
    let old = c.args.self.now.map.entries in
    let new = c.remove.new.self.entries in
    if_ok c.new.result _
    (λ v host x stands. put_back settings c.args.node c.number.result c.number.ensures.value old new c.len.ensures.ordered (take_out_is c.number.result old new c.len.ensures.ordered c.remove.ensures.ordered c.remove.ensures.entries) nodes are host x stands)
