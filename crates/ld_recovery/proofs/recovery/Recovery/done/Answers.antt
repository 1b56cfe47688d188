use Rattle.std.proofs.Common.{◌≡◌, ◌++◌, List, ℕ, ap, sym, subst, ◌∙◌, arith}
use Rattle.ld_ids.specs.Choice.{nodes_of}
use Rattle.ld_msg.specs.declared.msg.Msg.{Msg}
use Rattle.ld_msg.specs.declared.msg.Summary.{Summary}
use Rattle.ld_msg.specs.declared.msg.Body.TheVariants.{Clean}
use Rattle.ld_msg.specs.Sequencer.{to_each}
use Rattle.ld_recovery.specs.Recovering.{Recovering}
use Rattle.ld_recovery.specs.Sending.{sent}
use Rattle.ld_recovery.specs.Stages.{shown}
use Rattle.ld_recovery.proofs.Replies.{granted}
use Rattle.ld_recovery.proofs.Holding.{sent_is, one_summary}
use Rattle.ld_ids.specs.Id.{IsLog}
use Rattle.ld_ids.specs.Set.{members}
use Rattle.ld_sequencer_bounds.specs.Sequencers.{Posts}
use Rattle.ld_sequencer_bounds.proofs.Posts.{sent_behind}
use Rattle.ld_sequencer_bounds.proofs.Sends.{cleans_sent}
use Rattle.ld_recovery.proofs.Sound.{closes_well}
use Rattle.ld_recovery.proofs.recovery.Recovery.done.Goals as goal

pub returns-in_ok-tell_clean-clause-sent : goal.returns-in_ok-tell_clean-clause-sent
returns-in_ok-tell_clean-clause-sent c = λ y short h.
    let r = c.args.self.now in
    let s : c.in-Some.summary ≡ y = one_summary c.in-Some.summary y short (shown c.self.inside.stage) c.in-Some.ensures (ap (λ (x : Recovering). x.recovery.stage) c.self.view_is ∙ h.1) in
    let bs = ap (λ (x : Recovering). to_each (Clean x.recovery.epoch c.in-Some.summary) (nodes_of x.recovery.spec)) c.self.view_is ∙ ap (λ (z : Summary). to_each (Clean r.recovery.epoch z) (nodes_of r.recovery.spec)) s in
    c.in_ok-tell_clean.ensures.sent ∙ ap (λ (l : List Msg). c.args.out.now ++ l) (ap (sent c.sender-sender.result) bs ∙ (sent_is c.sender-sender.result r (to_each (Clean r.recovery.epoch y) (nodes_of r.recovery.spec)) c.sender-sender.ensures.log c.sender-sender.ensures.epoch ∙ sym (granted r y)))

pub returns-in_ok-tell_clean-clause-messages : goal.returns-in_ok-tell_clean-clause-messages
returns-in_ok-tell_clean-clause-messages c =
    let a = c.self.inside in
    let x = c.sender-sender.result in
    let l = c.sender-sender.ensures.log ∙ sym (ap (λ (r : Recovering). r.recovery.spec.log) c.self.view_is) in
    let b = c.sender-sender.ensures.epoch ∙ sym (ap (λ (r : Recovering). r.ballot) c.self.view_is) in
    let bs = to_each (Clean a.epoch c.in-Some.summary) (members a.spec.set) in
    sent_behind x.epoch x.log bs c.args.out.now c.tell_clean.new.out (subst IsLog (sym l) c.self.invariant.7.log)
    (subst (λ (o : ℕ). Posts o bs) (sym b) (cleans_sent a.ballot (omega (arith, c.self.invariant.2, c.self.invariant.3), c.self.invariant.4) a.epoch c.self.invariant.2 c.self.invariant.3 c.in-Some.summary (members a.spec.set)
    (closes_well a.spec a.epoch a.ballot a.stage c.in-Some.summary c.self.invariant.0 c.self.invariant.3 c.self.invariant.4 c.in-Some.ensures) c.self.invariant.7.nodes)) c.in_ok-tell_clean.ensures.sent
