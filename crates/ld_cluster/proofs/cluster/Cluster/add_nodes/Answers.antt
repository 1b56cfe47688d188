use Rattle.std.proofs.Common.{◌≡◌, ◌-◌, ◌∙◌, ◌++◌, arith, sym, ap, drop}
use Rattle.ld_table.proofs.Places.{there_is}
use Rattle.ld_machine.specs.Config.{all_nodes}
use Rattle.ld_cluster.specs.declared.part.Part.TheVariants as parts
use Rattle.ld_cluster.specs.Calming.{left_in}
use Rattle.ld_cluster.specs.Standing.{config_of}
use Rattle.ld_cluster.proofs.Calming.{left_last}
use Rattle.ld_cluster.proofs.Listing.{no_node, one_node, ticks_of}
use Rattle.ld_cluster.proofs.cluster.Cluster.add_nodes.Goals as goal

pub nodes-init : goal.nodes-init
nodes-init c = (omega (arith, c.len-place.ensures.count), no_node c.args.log (all_nodes (config_of c.args.self.now)) c.len-place.result (left_in c.args.left.now.items) c.len-place.ensures.count)

pub nodes-preserved : goal.nodes-preserved
nodes-preserved c = (
  omega (arith, c.nodes.invariant.0),
  one_node c.args.log (all_nodes (config_of c.args.self.now)) c.nodes.place (c.nodes.place - 1) c.in-Some.node (left_in c.args.left.now.items) (left_in c.nodes.left.items) (left_in c.push.new.self.items) c.in-Some.ensures.node (omega (arith, c.nodes-test.true)) c.nodes.invariant.1
      (left_last c.nodes.left.items c.push.new.self.items (parts.Ticks c.args.log c.in-Some.node) c.in_ok-push.ensures.items),
)

pub returns-in_default : goal.returns-in_default
returns-in_default c = absurd (there_is (all_nodes (config_of c.args.self.now)) (c.nodes.place - 1) (omega (arith, c.nodes.invariant.0, c.nodes-test.true)) (sym c.nth.ensures.node ∙ c.in_default.is))

pub returns : goal.returns
returns c = c.nodes.invariant.1 ∙ ap (λ n. ticks_of c.args.log (drop n (all_nodes (config_of c.args.self.now))) ++ left_in c.args.left.now.items) (let e : c.nodes.place ≡ 0 = omega (arith, c.nodes-test.false) in e)
