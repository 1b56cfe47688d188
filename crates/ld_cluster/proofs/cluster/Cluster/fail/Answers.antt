use Rattle.std.proofs.Common.{◌∙◌, sym, subst}
use Rattle.ld_cluster.specs.Standing.{config_of, state_of}
use Rattle.std.proofs.Common.{None}
use Rattle.ld_table.specs.Table.{put}
use Rattle.ld_machine.specs.Step.{with_fault}
use Rattle.ld_host.specs.Standing.{AreHosts, node_in}
use Rattle.ld_cluster.proofs.Stopping.{not_failed, failed_done}
use Rattle.ld_cluster.proofs.cluster.Cluster.fail.Goals as goal

pub returns-then-not-has-clause-done : goal.returns-then-not-has-clause-done
returns-then-not-has-clause-done c = not_failed c.args.self.now (state_of c.args.self.now) c.requires.reached.parts c.args.node c.nothing.result c.args.call (sym c.has.ensures.member ∙ c.if-not-has.true) c.nothing.ensures.lines c.nothing.ensures.sends

pub returns-clause-done : goal.returns-clause-done
returns-clause-done c = failed_done c.args.self.now (state_of c.args.self.now) c.requires.reached.parts c.args.node c.nothing-2.result c.arm.new.self c.args.call (sym c.has.ensures.member ∙ c.if-not-has.false) (subst (λ x. AreHosts (config_of c.args.self.now) c.arm.new.self (put c.args.node (with_fault (node_in (state_of c.args.self.now).nodes c.args.node) (record { left = x; crash = None })) (state_of c.args.self.now).nodes)) c.from.ensures (c.in_ok-arm.ensures _ _ c.requires.reached.parts.nodes)) c.nothing-2.ensures.lines c.nothing-2.ensures.sends
