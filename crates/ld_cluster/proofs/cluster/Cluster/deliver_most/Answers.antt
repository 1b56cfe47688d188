use Rattle.std.proofs.Common.{◌-◌, inl, arith}
use Rattle.ld_register.proofs.Committing.{on_err}
use Rattle.ld_cluster.proofs.Flowing.{flowing_start, flowing_by, flowing_cut, flowing_over, flowing_end}
use Rattle.ld_cluster.proofs.cluster.Cluster.deliver_most.Goals as goal

pub deliveries-init : goal.deliveries-init
deliveries-init c = flowing_start c.args.self.now c.args.lines.now c.args.most c.requires.reached

pub flow-requires : goal.flow-requires
flow-requires c = record { reached = c.deliveries.invariant.reached }

pub returns-then-not-more-clause-whole : goal.returns-then-not-more-clause-whole
returns-then-not-more-clause-whole c = flowing_over c.args.self.now c.deliveries.self c.flow.new.self c.args.lines.now c.deliveries.lines c.flow.new.lines c.args.most c.deliveries.left c.in_ok-more.more c.deliveries.invariant c.if-not-more.true c.in_ok-more.ensures.more c.in_ok-more.ensures.step

pub deliveries-preserved : goal.deliveries-preserved
deliveries-preserved c = flowing_by c.args.self.now c.deliveries.self c.flow.new.self c.args.lines.now c.deliveries.lines c.flow.new.lines c.args.most c.deliveries.left _ c.in_ok-more.more c.deliveries.invariant (omega (arith, c.deliveries-test.true)) c.if-not-more.false c.in_ok-more.ensures.more c.in_ok-more.ensures.step

pub returns-clause-whole : goal.returns-clause-whole
returns-clause-whole c = flowing_end c.args.self.now c.deliveries.self c.args.lines.now c.deliveries.lines c.args.most c.deliveries.left c.deliveries.invariant (inl (omega (arith, c.deliveries-test.false)))

pub returns-in_err-more-clause-part : goal.returns-in_err-more-clause-part
returns-in_err-more-clause-part c = on_err c.from_residual.result _ (flowing_cut c.args.self.now c.deliveries.self c.flow.new.self c.args.lines.now c.deliveries.lines c.flow.new.lines c.args.most c.deliveries.left (c.deliveries.left - 1) c.deliveries.invariant (omega (arith, c.deliveries-test.true)) c.in_err-more.ensures.part)
