use Rattle.std.proofs.Common.{◌∙◌, sym, arith}
use Rattle.std.proofs.lemmas.Option.{slice_get_within}
use Rattle.ld_ids.specs.Set.{members}
use Rattle.ld_ids.proofs.Members.{count_bound}
use Rattle.ld_machine.specs.Config.{has_node}
use Rattle.ld_cluster.proofs.Setting.{passes, fails, all_passed}
use Rattle.ld_cluster.proofs.sets.has_nodes.Goals as goal

pub overflow_add-place : goal.overflow_add-place
overflow_add-place c =
    let w = slice_get_within (members c.args.set.now) c.nodes.place c.in-Some.node (sym c.in-Some.ensures.node) in
    omega (arith, count_bound 1 c.args.set.now, c.nth.ensures.set)

pub nodes-smaller : goal.nodes-smaller
nodes-smaller c =
    let w = slice_get_within (members c.args.set.now) c.nodes.place c.in-Some.node (sym c.in-Some.ensures.node) in
    omega arith

pub nodes-preserved : goal.nodes-preserved
nodes-preserved c = passes (has_node c.args.config.now) (members c.args.set.now) c.nodes.place c.in-Some.node (sym c.in-Some.ensures.node) c.nodes.invariant (sym c.has.ensures.member ∙ c.if-not-has.false)

pub returns-then-not-has : goal.returns-then-not-has
returns-then-not-has c = fails (has_node c.args.config.now) (members c.args.set.now) c.nodes.place c.in-Some.node (sym c.in-Some.ensures.node) c.nodes.invariant (sym c.has.ensures.member ∙ c.if-not-has.true)

pub returns : goal.returns
returns c = all_passed (has_node c.args.config.now) (members c.args.set.now) c.nodes.place c.nth.result c.nth.ensures.node c.in_default.not-Some c.nodes.invariant
