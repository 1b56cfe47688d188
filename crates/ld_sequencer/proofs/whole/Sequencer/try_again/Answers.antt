use Rattle.std.proofs.Common.{◌∙◌, sym}
use Rattle.ld_sequencer.proofs.whole.Sequencer.try_again.Goals.{in-Some+in-Seals-1, in-Some+in-Stores-1, in-Some+in-Closes-1, in-None-1}
use Rattle.ld_sequencer.proofs.Serving.{again_one, again_now, again_sent}
use Rattle.ld_sequencer.proofs.whole.Sequencer.try_again.Goals as goal

pub invariant_of-self-in_ok-retry-4 : goal.invariant_of-self-in_ok-retry-4
invariant_of-self-in_ok-retry-4 c = again_one c.args.self.now c.self.inside.own c.self.inside.recovery c.in-Some.recovery c.retry.new.self c.self.view_is c.self.invariant (sym c.take.ensures.value ∙ c.in-Some.is) c.requires c.in_ok-retry.ensures.value

pub returns-in_ok-retry-clause-now : goal.returns-in_ok-retry-clause-now
returns-in_ok-retry-clause-now c = λ looks.
    let k = again_now looks c.args.self.now c.self.inside.own c.self.inside.recovery c.in-Some.recovery c.retry.new.self c.self.view_is c.self.invariant (sym c.take.ensures.value ∙ c.in-Some.is) c.requires c.in_ok-retry.ensures.value in
    elim c.match-self.branch [ in-Some+in-Seals-1 w ↦ w.self-is ∙ k | in-Some+in-Stores-1 w ↦ w.self-is ∙ k | in-Some+in-Closes-1 w ↦ w.self-is ∙ k | in-None-1 w ↦ w.self-is ∙ k ]

pub returns-in_ok-retry-clause-out : goal.returns-in_ok-retry-clause-out
returns-in_ok-retry-clause-out c = λ looks.
    again_sent looks c.args.self.now c.self.inside.own c.self.inside.recovery c.in-Some.recovery c.args.out.now c.retry.new.out c.self.view_is c.self.invariant (sym c.take.ensures.value ∙ c.in-Some.is) c.requires c.in_ok-retry.ensures.sent
