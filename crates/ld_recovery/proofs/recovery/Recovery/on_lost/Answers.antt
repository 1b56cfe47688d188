use Rattle.std.proofs.Common.{◌≡◌, ◌++◌, List, ℕ, ap, sym, subst, ◌∙◌, append-nil}
use Rattle.ld_lsn.specs.Number.{home_epoch}
use Rattle.ld_ids.specs.Id.{IsLog}
use Rattle.ld_msg.specs.declared.msg.Msg.{Msg}
use Rattle.ld_msg.specs.declared.msg.Body.TheVariants.{LostHere}
use Rattle.ld_recovery.specs.Recovering.{Recovering, Goes, replied, reply_messages}
use Rattle.ld_recovery.specs.Sending.{sent}
use Rattle.ld_recovery.specs.States.{shown_ending}
use Rattle.ld_recovery.specs.Stages.{IsOf, loss_stage, loss_sends}
use Rattle.ld_sequencer_bounds.specs.Sequencers.{IsStage, Posts}
use Rattle.ld_sequencer_bounds.proofs.Posts.{sent_behind}
use Rattle.ld_recovery.proofs.Bounded.{loss_is, loss_sent}
use Rattle.ld_recovery.proofs.Replies.{lost_here, lost_elsewhere}
use Rattle.ld_recovery.proofs.Holding.{held, loss_value, loss_sends_are}
use Rattle.ld_recovery.proofs.recovery.Recovery.on_lost.Goals as goal

pub invariant_of-self-in-Continue-1 : goal.invariant_of-self-in-Continue-1
invariant_of-self-in-Continue-1 c =
    let a = c.self.inside in (
      subst (λ (b : ℕ). IsOf a.spec a.epoch b c.lose_node.new.self) c.sender-sender.ensures.epoch c.lose_node.ensures.of,
      c.self.invariant.1,
      c.self.invariant.2,
      c.self.invariant.3,
      c.self.invariant.4,
      c.self.invariant.5,
      subst (IsStage a.epoch) (sym (c.in_ok-lose_node.ensures.shown ∙ ap (λ (b : ℕ). loss_stage a.spec a.epoch b c.add.new.self c.args.node a.stage) c.sender-sender.ensures.epoch)) (loss_is a.epoch a.ballot c.self.invariant.2 c.self.invariant.3 c.self.invariant.4 a.spec c.self.invariant.7 c.add.new.self c.args.node a.stage c.self.invariant.0 c.self.invariant.6),
      c.self.invariant.7,
    )

pub returns-in_ok-lose_node-clause-value : goal.returns-in_ok-lose_node-clause-value
returns-in_ok-lose_node-clause-value c = λ round gen end.
    let a = c.self.inside in
    let h : shown_ending a.ending ≡ Goes = ap (λ (r : Recovering). r.ending) c.self.view_is ∙ c.requires in
    subst (λ (r : Recovering). held a.spec a.epoch a.ballot c.add.new.self c.lose_node.new.self a.ending ≡ replied r c.args.node (LostHere c.args.number round gen end)) c.self.view_is
    (loss_value a.spec a.epoch a.ballot a.lost c.add.new.self a.stage a.ending c.args.node c.args.number round gen end h c.self.invariant.0 c.add.ensures
    (lost_here (held a.spec a.epoch a.ballot a.lost a.stage a.ending) c.args.node c.args.number round gen end h (sym c.home-epoch.ensures.epoch ∙ c.if-epoch-self.true) c.self.invariant.3)
    c.lose_node.new.self (c.in_ok-lose_node.ensures.shown ∙ ap (λ (b : ℕ). loss_stage a.spec a.epoch b c.add.new.self c.args.node a.stage) c.sender-sender.ensures.epoch))

pub returns-in_ok-lose_node-clause-sent : goal.returns-in_ok-lose_node-clause-sent
returns-in_ok-lose_node-clause-sent c = λ round gen end.
    let a = c.self.inside in
    let h : shown_ending a.ending ≡ Goes = ap (λ (r : Recovering). r.ending) c.self.view_is ∙ c.requires in
    c.in_ok-lose_node.ensures.sent
    ∙ subst (λ (r : Recovering). c.args.out.now ++ sent c.sender-sender.result (loss_sends a.spec a.epoch c.add.new.self c.args.node a.stage) ≡ c.args.out.now ++ reply_messages r c.args.node (LostHere c.args.number round gen end)) c.self.view_is
    (ap (λ (l : List Msg). c.args.out.now ++ l) (loss_sends_are a.spec a.epoch a.ballot a.lost c.add.new.self a.stage a.ending c.args.node c.args.number round gen end h c.self.invariant.0 c.add.ensures
    (lost_here (held a.spec a.epoch a.ballot a.lost a.stage a.ending) c.args.node c.args.number round gen end h (sym c.home-epoch.ensures.epoch ∙ c.if-epoch-self.true) c.self.invariant.3)
    c.sender-sender.result c.sender-sender.ensures.log c.sender-sender.ensures.epoch))

pub returns-in_ok-lose_node-clause-messages : goal.returns-in_ok-lose_node-clause-messages
returns-in_ok-lose_node-clause-messages c =
    let a = c.self.inside in
    let x = c.sender-sender.result in
    let bs = loss_sends a.spec a.epoch c.add.new.self c.args.node a.stage in
    sent_behind x.epoch x.log bs c.args.out.now c.lose_node.new.out (subst IsLog (sym c.sender-sender.ensures.log) c.self.invariant.7.log)
    (subst (λ (o : ℕ). Posts o bs) (sym c.sender-sender.ensures.epoch) (loss_sent a.epoch a.ballot c.self.invariant.2 c.self.invariant.3 c.self.invariant.4 a.spec c.self.invariant.7 c.add.new.self c.args.node a.stage c.self.invariant.0 c.self.invariant.6)) c.in_ok-lose_node.ensures.sent

elsewhere : (c : goal.Else-epoch-self) → home_epoch c.args.number ≡ c.args.self.now.recovery.epoch → ⊥
elsewhere c e = c.if-epoch-self.false (c.home-epoch.ensures.epoch ∙ (e ∙ sym (ap (λ (r : Recovering). r.recovery.epoch) c.self.view_is)))

pub returns-else-epoch-self-clause-value : goal.returns-else-epoch-self-clause-value
returns-else-epoch-self-clause-value c = λ round gen end. sym (lost_elsewhere c.args.self.now c.args.node c.args.number round gen end c.requires (elsewhere c)).value

pub returns-else-epoch-self-clause-sent : goal.returns-else-epoch-self-clause-sent
returns-else-epoch-self-clause-sent c = λ round gen end. sym (ap (λ (l : List Msg). c.args.out.now ++ l) (lost_elsewhere c.args.self.now c.args.node c.args.number round gen end c.requires (elsewhere c)).sent ∙ append-nil c.args.out.now)
