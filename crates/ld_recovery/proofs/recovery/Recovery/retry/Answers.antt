use Rattle.std.proofs.Common.{◌≡◌, ◌++◌, List, ℕ, ap, sym, subst, ◌∙◌}
use Rattle.ld_msg.specs.declared.msg.Msg.{Msg}
use Rattle.ld_recovery.specs.Recovering.{Recovering, Goes, retried, retry_messages}
use Rattle.ld_recovery.specs.Sending.{sent}
use Rattle.ld_ids.specs.declared.set.Spec.{Spec}
use Rattle.ld_recovery.specs.Stages.{IsOf, retried_stage, retry_sends}
use Rattle.ld_recovery.specs.States.{shown_ending}
use Rattle.ld_recovery.proofs.Holding.{held, retry_value, retry_sends_are, goes_if}
use Rattle.ld_ids.specs.Id.{IsLog}
use Rattle.ld_recovery.specs.declared.stage.Stage.{Stage}
use Rattle.ld_recovery.specs.Stages.{shown}
use Rattle.ld_sequencer_bounds.specs.Sequencers.{IsStage, Posts}
use Rattle.ld_sequencer_bounds.proofs.Posts.{sent_behind}
use Rattle.ld_recovery.proofs.Bounded.{retried_is, retries_sent}
use Rattle.ld_recovery.proofs.recovery.Recovery.retry.Goals as goal

-- a stage of this ballot stays one
kept : (spec : Spec) (epoch x ballot : ℕ) (s t : Stage) → x ≡ ballot → (IsOf spec epoch x s → IsOf spec epoch x t) → IsOf spec epoch ballot s → IsOf spec epoch ballot t
kept spec epoch x ballot s t e f h = subst (λ (b : ℕ). IsOf spec epoch b t) e (f (subst (λ (b : ℕ). IsOf spec epoch b s) (sym e) h))

pub invariant_of-self : goal.invariant_of-self
invariant_of-self c = (
  kept c.self.inside.spec c.self.inside.epoch c.sender-sender.result.epoch c.self.inside.ballot c.self.inside.stage c.try_again.new.self (c.sender-sender.ensures.epoch ∙ sym (ap (λ (r : Recovering). r.ballot) c.self.view_is)) (c.try_again.ensures.of c.self.inside.spec c.self.inside.epoch) c.self.invariant.0,
  c.self.invariant.1,
  c.self.invariant.2,
  c.self.invariant.3,
  c.self.invariant.4,
  c.self.invariant.5,
  subst (IsStage c.self.inside.epoch) (sym (c.in_ok-try_again.ensures.shown ∙ ap (λ (b : ℕ). retried_stage b c.self.inside.lost c.self.inside.stage) (c.sender-sender.ensures.epoch ∙ sym (ap (λ (r : Recovering). r.ballot) c.self.view_is)))) (retried_is c.self.inside.epoch c.self.inside.ballot c.self.invariant.2 c.self.invariant.3 c.self.invariant.4 c.self.inside.spec c.self.inside.lost c.self.inside.stage c.self.invariant.0 c.self.invariant.6),
  c.self.invariant.7,
)

pub invariant_of-self-in_err-try_again : goal.invariant_of-self-in_err-try_again
invariant_of-self-in_err-try_again c = (
  kept c.self.inside.spec c.self.inside.epoch c.sender-sender.result.epoch c.self.inside.ballot c.self.inside.stage c.try_again.new.self (c.sender-sender.ensures.epoch ∙ sym (ap (λ (r : Recovering). r.ballot) c.self.view_is)) (c.try_again.ensures.of c.self.inside.spec c.self.inside.epoch) c.self.invariant.0,
  c.self.invariant.1,
  c.self.invariant.2,
  c.self.invariant.3,
  c.self.invariant.4,
  c.self.invariant.5,
  subst (λ (t : Stage). IsStage c.self.inside.epoch (shown t)) (sym c.in_err-try_again.ensures.stopped) tt,
  c.self.invariant.7,
)

pub returns-in_ok-try_again-clause-value : goal.returns-in_ok-try_again-clause-value
returns-in_ok-try_again-clause-value c =
    let a = c.self.inside in
    let h : shown_ending a.ending ≡ Goes = ap (λ (r : Recovering). r.ending) c.self.view_is ∙ goes_if c.args.self.now.ending c.if-goes_on.ensures in
    subst (λ (r : Recovering). held a.spec a.epoch a.ballot a.lost c.try_again.new.self a.ending ≡ retried r) c.self.view_is (retry_value a.spec a.epoch a.ballot a.lost a.stage c.try_again.new.self a.ending h c.self.invariant.0 (c.in_ok-try_again.ensures.shown ∙ ap (λ (b : ℕ). retried_stage b a.lost a.stage) (c.sender-sender.ensures.epoch ∙ sym (ap (λ (r : Recovering). r.ballot) c.self.view_is))))

pub returns-in_ok-try_again-clause-sent : goal.returns-in_ok-try_again-clause-sent
returns-in_ok-try_again-clause-sent c =
    let a = c.self.inside in
    let h : shown_ending a.ending ≡ Goes = ap (λ (r : Recovering). r.ending) c.self.view_is ∙ goes_if c.args.self.now.ending c.if-goes_on.ensures in
    c.in_ok-try_again.ensures.sent ∙ subst (λ (r : Recovering). c.args.out.now ++ sent c.sender-sender.result (retry_sends a.lost a.stage) ≡ c.args.out.now ++ retry_messages r) c.self.view_is
    (ap (λ (l : List Msg). c.args.out.now ++ l) (retry_sends_are a.spec a.epoch a.ballot a.lost a.stage a.ending c.sender-sender.result h c.self.invariant.0
    (c.sender-sender.ensures.log ∙ sym (ap (λ (r : Recovering). r.recovery.spec.log) c.self.view_is)) (c.sender-sender.ensures.epoch ∙ sym (ap (λ (r : Recovering). r.ballot) c.self.view_is))))

pub returns-in_ok-try_again-clause-messages : goal.returns-in_ok-try_again-clause-messages
returns-in_ok-try_again-clause-messages c =
    let a = c.self.inside in
    let x = c.sender-sender.result in
    let l = c.sender-sender.ensures.log ∙ sym (ap (λ (r : Recovering). r.recovery.spec.log) c.self.view_is) in
    let b = c.sender-sender.ensures.epoch ∙ sym (ap (λ (r : Recovering). r.ballot) c.self.view_is) in
    sent_behind x.epoch x.log (retry_sends a.lost a.stage) c.args.out.now c.try_again.new.out (subst IsLog (sym l) c.self.invariant.7.log)
    (subst (λ (o : ℕ). Posts o (retry_sends a.lost a.stage)) (sym b) (retries_sent a.epoch a.ballot c.self.invariant.2 c.self.invariant.3 c.self.invariant.4 a.spec c.self.invariant.7 a.lost a.stage c.self.invariant.0 c.self.invariant.6)) c.in_ok-try_again.ensures.sent
