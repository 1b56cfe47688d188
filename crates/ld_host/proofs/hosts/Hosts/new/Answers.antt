use Rattle.std.proofs.Common.{◌+◌, take, sym, ap, ◌∙◌, subst, arith}
use Rattle.std.proofs.lemmas.Option.{slice_get_within}
use Rattle.ld_table.specs.Table.{put}
use Rattle.ld_ids.specs.Set.{members}
use Rattle.ld_ids.proofs.Members.{count_bound}
use Rattle.ld_machine.specs.State.{new_nodes}
use Rattle.ld_host.specs.Standing.{AllStand}
use Rattle.ld_host.proofs.Standings.{next_stands, past_all}
use Rattle.ld_host.proofs.hosts.Hosts.new.Goals as goal

pub overflow_add-place : goal.overflow_add-place
overflow_add-place c =
    let set = c.args.config.now.nodes in
    let w = slice_get_within (members set) c.nodes.place c.in-Some.node (sym c.in-Some.ensures.node) in
    omega (arith, count_bound 1 set, c.nth.ensures.set)

pub nodes-smaller : goal.nodes-smaller
nodes-smaller c =
    let w = slice_get_within (members c.args.config.now.nodes) c.nodes.place c.in-Some.node (sym c.in-Some.ensures.node) in
    omega arith

pub nodes-preserved : goal.nodes-preserved
unfolding put
nodes-preserved c =
    let config = c.args.config.now in
    let w = slice_get_within (members config.nodes) c.nodes.place c.in-Some.node (sym c.in-Some.ensures.node) in
    let next = next_stands config config.nodes c.nodes.place c.in-Some.node c.nodes.map.entries c.in_ok-new.field-0 (sym c.in-Some.ensures.node) (c.in_ok-new.ensures.stands config) c.nodes.invariant.stand in
    record {
      within = omega arith;
      stand = subst (λ m. AllStand config m (new_nodes (take (c.nodes.place + 1) (members config.nodes)))) (sym (c.in_ok-insert.ensures.entries ∙ ap (λ k. put k c.in_ok-new.field-0 c.nodes.map.entries) c.number.ensures.value)) next;
    }

pub returns : goal.returns
returns c =
    let config = c.args.config.now in
    subst (λ ns. AllStand config c.nodes.map.entries (new_nodes ns)) (past_all (members config.nodes) c.nodes.place c.nth.result c.nth.ensures.node c.in_default.not-Some) c.nodes.invariant.stand
