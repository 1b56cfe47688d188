use Rattle.std.proofs.Common.{◌≡◌, ◌++◌, List, ℕ, Bool, true, refl, ap, sym, subst, ◌∙◌}
use Rattle.std.specs.Prelude.{◌&&◌}
use Rattle.ld_ids.specs.Id.{IsLog}
use Rattle.ld_msg.specs.declared.msg.Msg.{Msg}
use Rattle.ld_recovery.specs.Recovering.{Recovering, Ending, Goes, IsDone, IsGone, IsPreempted, is_going, is_spent_stage, losing, loss_messages}
use Rattle.ld_recovery.specs.Sending.{sent}
use Rattle.ld_recovery.specs.States.{shown_ending}
use Rattle.ld_recovery.specs.Stages.{IsOf, gathering_of, lossy_sends}
use Rattle.ld_sequencer_bounds.specs.Sequencers.{IsStage, Posts}
use Rattle.ld_sequencer_bounds.proofs.Posts.{sent_behind}
use Rattle.ld_recovery.proofs.Bounded.{lossy_is, lossy_sent}
use Rattle.ld_recovery.proofs.Holding.{held, lossy_value, lossy_sends_are}
use Rattle.ld_recovery.proofs.recovery.Recovery.lose.Goals as goal

pub invariant_of-self-2 : goal.invariant_of-self-2
invariant_of-self-2 c =
    let a = c.self.inside in (
      subst (λ (b : ℕ). IsOf a.spec a.epoch b c.lose.new.self) (c.sender-sender.ensures.epoch ∙ sym (ap (λ (r : Recovering). r.ballot) c.self.view_is)) c.lose.ensures.of,
      c.self.invariant.1,
      c.self.invariant.2,
      c.self.invariant.3,
      c.self.invariant.4,
      c.self.invariant.5,
      subst (IsStage a.epoch) (sym c.in_ok-lose.ensures.shown) (lossy_is a.epoch a.ballot c.self.invariant.2 c.self.invariant.3 c.self.invariant.4 a.spec c.self.invariant.7 a.stage c.self.invariant.0 c.self.invariant.6),
      c.self.invariant.7,
    )

goes_spent : (e : Ending) (b : Bool) → (is_going e && b) ≡ true → e ≡ Goes
goes_spent Goes b h = refl
goes_spent (IsDone s) b h = absurd cc
goes_spent (IsGone l) b h = absurd cc
goes_spent (IsPreempted k) b h = absurd cc

pub returns-clause-value : goal.returns-clause-value
returns-clause-value c =
    let a = c.self.inside in
    let r = c.args.self.now in
    let h : shown_ending a.ending ≡ Goes = ap (λ (r : Recovering). r.ending) c.self.view_is ∙ goes_spent r.ending (is_spent_stage r.recovery.spec r.recovery.stage) c.requires in
    subst (λ (r : Recovering). held a.spec a.epoch a.ballot a.lost c.lose.new.self a.ending ≡ losing r) c.self.view_is (lossy_value a.spec a.epoch a.ballot a.lost a.stage c.lose.new.self a.ending h c.self.invariant.0 c.in_ok-lose.ensures.shown)

pub returns-clause-sent : goal.returns-clause-sent
returns-clause-sent c =
    let a = c.self.inside in
    c.in_ok-lose.ensures.sent ∙ subst (λ (r : Recovering). c.args.out.now ++ sent c.sender-sender.result (lossy_sends a.lost (gathering_of a.spec a.epoch a.stage)) ≡ c.args.out.now ++ loss_messages r) c.self.view_is
    (ap (λ (l : List Msg). c.args.out.now ++ l) (lossy_sends_are a.spec a.epoch a.ballot a.lost a.stage a.ending c.sender-sender.result c.self.invariant.0
    (c.sender-sender.ensures.log ∙ sym (ap (λ (r : Recovering). r.recovery.spec.log) c.self.view_is)) (c.sender-sender.ensures.epoch ∙ sym (ap (λ (r : Recovering). r.ballot) c.self.view_is))))

pub returns-clause-messages : goal.returns-clause-messages
returns-clause-messages c =
    let a = c.self.inside in
    let x = c.sender-sender.result in
    let l = c.sender-sender.ensures.log ∙ sym (ap (λ (r : Recovering). r.recovery.spec.log) c.self.view_is) in
    let b = c.sender-sender.ensures.epoch ∙ sym (ap (λ (r : Recovering). r.ballot) c.self.view_is) in
    let bs = lossy_sends a.lost (gathering_of a.spec a.epoch a.stage) in
    sent_behind x.epoch x.log bs c.args.out.now c.lose.new.out (subst IsLog (sym l) c.self.invariant.7.log)
    (subst (λ (o : ℕ). Posts o bs) (sym b) (lossy_sent a.epoch a.ballot c.self.invariant.2 c.self.invariant.3 c.self.invariant.4 a.spec c.self.invariant.7 a.lost a.stage c.self.invariant.0 c.self.invariant.6)) c.in_ok-lose.ensures.sent
