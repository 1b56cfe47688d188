use Rattle.std.proofs.Common.{arith}
use Rattle.ld_register.proofs.Committing.{on_err}
use Rattle.ld_cluster.specs.Calming.{left_in}
use Rattle.ld_cluster.specs.Standing.{state_of}
use Rattle.ld_cluster.proofs.Calming.{still_by, still_cut, still_here, still_none, still_out, still_over, still_start}
use Rattle.ld_cluster.proofs.cluster.Cluster.calm_down.Goals as goal

pub steps-init : goal.steps-init
steps-init c = still_start c.args.self.now c.args.lines.now (left_in c.in_ok-left.left.items) c.requires.reached (c.in_ok-left.ensures (state_of c.args.self.now) c.requires.reached.parts)

pub calm_step-requires : goal.calm_step-requires
calm_step-requires c =
    let h = still_here c.args.self.now c.steps.self c.args.lines.now c.steps.lines (left_in c.steps.left.items) c.steps.turn c.steps.invariant in
    record { reached = h.0; of = h.1 }

pub steps-preserved : goal.steps-preserved
steps-preserved c = still_by c.args.self.now c.steps.self c.calm_step.new.self c.args.lines.now c.steps.lines c.calm_step.new.lines (left_in c.steps.left.items) (left_in c.calm_step.new.left.items) c.steps.turn c.in_ok-more.more (omega (arith, c.steps-test.true)) c.steps.invariant c.if-not-more.false c.in_ok-more.ensures.took c.in_ok-more.ensures.of

pub returns-then-not-more-clause-whole : goal.returns-then-not-more-clause-whole
returns-then-not-more-clause-whole c = still_over c.args.self.now c.steps.self c.calm_step.new.self c.args.lines.now c.steps.lines c.calm_step.new.lines (left_in c.steps.left.items) (left_in c.calm_step.new.left.items) c.steps.turn c.in_ok-more.more c.steps.invariant c.if-not-more.true c.in_ok-more.ensures.took

pub returns-clause-part : goal.returns-clause-part
returns-clause-part c = still_out c.args.self.now c.steps.self c.args.lines.now c.steps.lines (left_in c.steps.left.items) c.steps.turn c.steps.invariant

pub returns-in_err-left-clause-part : goal.returns-in_err-left-clause-part
returns-in_err-left-clause-part c = on_err c.from_residual.result _ (still_none c.args.self.now c.args.lines.now)

pub returns-in_err-more-clause-part : goal.returns-in_err-more-clause-part
returns-in_err-more-clause-part c = on_err c.from_residual-in_err-more.result _ (still_cut c.args.self.now c.steps.self c.calm_step.new.self c.args.lines.now c.steps.lines c.calm_step.new.lines (left_in c.steps.left.items) c.steps.turn (omega (arith, c.steps-test.true)) c.steps.invariant c.in_err-more.ensures.part)
