use Rattle.std.proofs.Common.{◌≡◌, ◌++◌, List, ℕ, ap, sym, subst, ◌∙◌, append-nil, arith}
use Rattle.ld_lsn.specs.Number.{home_epoch}
use Rattle.ld_msg.specs.declared.msg.Msg.{Msg}
use Rattle.ld_msg.specs.declared.msg.Body.TheVariants.{CleanHere, Clean}
use Rattle.ld_msg.specs.Sequencer.{to_each}
use Rattle.ld_ids.specs.Set.{members}
use Rattle.ld_recovery.specs.Sending.{sent}
use Rattle.ld_recovery.specs.Recovering.{Recovering, Goes, replied, reply_messages, messages}
use Rattle.ld_recovery.specs.States.{shown_ending}
use Rattle.ld_recovery.proofs.Replies.{clean_own, clean_here, clean_elsewhere, preempted, done_with}
use Rattle.ld_recovery.proofs.Holding.{held, sent_is}
use Rattle.ld_ids.specs.Id.{IsLog}
use Rattle.ld_sequencer_bounds.specs.Sequencers.{Posts}
use Rattle.ld_sequencer_bounds.proofs.Posts.{sent_behind}
use Rattle.ld_sequencer_bounds.proofs.Sends.{cleans_sent}
use Rattle.ld_recovery.proofs.Sound.{at_home}
use Rattle.ld_recovery.proofs.recovery.Recovery.on_clean.Goals as goal

pub returns-then-epoch-self-clause-value : goal.returns-then-epoch-self-clause-value
returns-then-epoch-self-clause-value c =
    let a = c.self.inside in
    let w = held a.spec a.epoch a.ballot a.lost a.stage a.ending in
    let h : shown_ending a.ending ≡ Goes = ap (λ (r : Recovering). r.ending) c.self.view_is ∙ c.requires.going in
    subst (λ (r : Recovering). preempted w c.args.summary.now.ballot ≡ replied r c.args.node (CleanHere c.args.number c.args.summary.now)) c.self.view_is
    (sym (clean_own w c.args.node c.args.number c.args.summary.now h (sym c.home-epoch.ensures.epoch ∙ c.if-epoch-self.true)).value)

pub returns-then-epoch-self-clause-sent : goal.returns-then-epoch-self-clause-sent
returns-then-epoch-self-clause-sent c =
    let e : home_epoch c.args.number ≡ c.args.self.now.ballot = sym c.home-epoch.ensures.epoch ∙ (c.if-epoch-self.true ∙ ap (λ (r : Recovering). r.ballot) c.self.view_is) in
    sym (ap (λ (l : List Msg). c.args.out.now ++ l) (clean_own c.args.self.now c.args.node c.args.number c.args.summary.now c.requires.going e).sent ∙ append-nil c.args.out.now)

pub returns-in_ok-tell_clean-clause-value : goal.returns-in_ok-tell_clean-clause-value
returns-in_ok-tell_clean-clause-value c =
    let a = c.self.inside in
    let w = held a.spec a.epoch a.ballot a.lost a.stage a.ending in
    let h : shown_ending a.ending ≡ Goes = ap (λ (r : Recovering). r.ending) c.self.view_is ∙ c.requires.going in
    subst (λ (r : Recovering). done_with w c.args.summary.now ≡ replied r c.args.node (CleanHere c.args.number c.args.summary.now)) c.self.view_is
    (sym (clean_here w c.args.node c.args.number c.args.summary.now h (λ e. c.if-epoch-self.false (c.home-epoch.ensures.epoch ∙ e)) (sym c.home-epoch.ensures.epoch ∙ c.if-epoch-self-2.true) c.self.invariant.2).value)

pub returns-in_ok-tell_clean-clause-sent : goal.returns-in_ok-tell_clean-clause-sent
returns-in_ok-tell_clean-clause-sent c =
    let a = c.self.inside in
    let w = held a.spec a.epoch a.ballot a.lost a.stage a.ending in
    let h : shown_ending a.ending ≡ Goes = ap (λ (r : Recovering). r.ending) c.self.view_is ∙ c.requires.going in
    let s = (clean_here w c.args.node c.args.number c.args.summary.now h (λ e. c.if-epoch-self.false (c.home-epoch.ensures.epoch ∙ e)) (sym c.home-epoch.ensures.epoch ∙ c.if-epoch-self-2.true) c.self.invariant.2).sent in
    let n : messages w (to_each (Clean c.home-epoch.result.0 c.args.summary.now) (members a.spec.set)) ≡ messages w (to_each (Clean a.epoch c.args.summary.now) (members a.spec.set)) = ap (λ (e : ℕ). messages w (to_each (Clean e c.args.summary.now) (members a.spec.set))) c.if-epoch-self-2.true in
    let k = sent_is c.sender-sender.result w (to_each (Clean c.home-epoch.result.0 c.args.summary.now) (members a.spec.set)) (c.sender-sender.ensures.log ∙ sym (ap (λ (r : Recovering). r.recovery.spec.log) c.self.view_is)) (c.sender-sender.ensures.epoch ∙ sym (ap (λ (r : Recovering). r.ballot) c.self.view_is)) in
    c.in_ok-tell_clean.ensures.sent ∙ subst (λ (r : Recovering). c.args.out.now ++ sent c.sender-sender.result (to_each (Clean c.home-epoch.result.0 c.args.summary.now) (members a.spec.set)) ≡ c.args.out.now ++ reply_messages r c.args.node (CleanHere c.args.number c.args.summary.now)) c.self.view_is
    (ap (λ (l : List Msg). c.args.out.now ++ l) (k ∙ (n ∙ sym s)))

pub returns-else-epoch-self-2-clause-value : goal.returns-else-epoch-self-2-clause-value
returns-else-epoch-self-2-clause-value c = sym (clean_elsewhere c.args.self.now c.args.node c.args.number c.args.summary.now c.requires.going
    (λ e. c.if-epoch-self.false (c.home-epoch.ensures.epoch ∙ (e ∙ sym (ap (λ (r : Recovering). r.ballot) c.self.view_is))))
    (λ e. c.if-epoch-self-2.false (c.home-epoch.ensures.epoch ∙ (e ∙ sym (ap (λ (r : Recovering). r.recovery.epoch) c.self.view_is))))).value

pub returns-else-epoch-self-2-clause-sent : goal.returns-else-epoch-self-2-clause-sent
returns-else-epoch-self-2-clause-sent c =
    let q = clean_elsewhere c.args.self.now c.args.node c.args.number c.args.summary.now c.requires.going
    (λ e. c.if-epoch-self.false (c.home-epoch.ensures.epoch ∙ (e ∙ sym (ap (λ (r : Recovering). r.ballot) c.self.view_is))))
    (λ e. c.if-epoch-self-2.false (c.home-epoch.ensures.epoch ∙ (e ∙ sym (ap (λ (r : Recovering). r.recovery.epoch) c.self.view_is)))) in
    sym (ap (λ (l : List Msg). c.args.out.now ++ l) q.sent ∙ append-nil c.args.out.now)

pub returns-in_ok-tell_clean-clause-messages : goal.returns-in_ok-tell_clean-clause-messages
returns-in_ok-tell_clean-clause-messages c =
    let a = c.self.inside in
    let x = c.sender-sender.result in
    let l = c.sender-sender.ensures.log ∙ sym (ap (λ (r : Recovering). r.recovery.spec.log) c.self.view_is) in
    let b = c.sender-sender.ensures.epoch ∙ sym (ap (λ (r : Recovering). r.ballot) c.self.view_is) in
    let h = sym c.if-epoch-self-2.true in
    let bs = to_each (Clean c.home-epoch.result.0 c.args.summary.now) (members a.spec.set) in
    sent_behind x.epoch x.log bs c.args.out.now c.tell_clean.new.out (subst IsLog (sym l) c.self.invariant.7.log)
    (subst (λ (o : ℕ). Posts o bs) (sym b) (subst (λ (n : ℕ). Posts a.ballot (to_each (Clean n c.args.summary.now) (members a.spec.set))) h
    (cleans_sent a.ballot (omega (arith, c.self.invariant.2, c.self.invariant.3), c.self.invariant.4) a.epoch c.self.invariant.2 c.self.invariant.3 c.args.summary.now (members a.spec.set)
    (at_home c.args.number a.epoch c.args.summary.now c.requires.summary (sym c.home-epoch.ensures.epoch ∙ c.if-epoch-self-2.true)) c.self.invariant.7.nodes))) c.in_ok-tell_clean.ensures.sent
