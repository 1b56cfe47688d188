use Rattle.std.proofs.Common.{◌≡◌, ◌++◌, List, ℕ, ap, sym, subst, arith, ◌∙◌, append-nil}
use Rattle.ld_msg.specs.declared.msg.Msg.{Msg}
use Rattle.ld_msg.specs.declared.msg.Body.TheVariants.{DigestPage}
use Rattle.ld_recovery.specs.Recovering.{Recovering, Goes, replied, reply_messages}
use Rattle.ld_recovery.specs.Sending.{sent}
use Rattle.ld_recovery.specs.Stages.{page_sends}
use Rattle.ld_recovery.specs.States.{shown_ending}
use Rattle.ld_recovery.proofs.Numbers.{in_place}
use Rattle.ld_recovery.proofs.Replies.{page_elsewhere}
use Rattle.ld_recovery.proofs.Holding.{held, page_value, page_sends_are}
use Rattle.ld_ids.specs.Id.{IsLog}
use Rattle.ld_recovery.specs.declared.stage.Stage.{Stage}
use Rattle.ld_recovery.specs.Stages.{shown, IsOf}
use Rattle.ld_sequencer_bounds.specs.Sequencers.{IsStage, Posts}
use Rattle.ld_sequencer_bounds.proofs.Posts.{sent_behind}
use Rattle.ld_recovery.proofs.Bounded.{page_is, page_sent}
use Rattle.ld_recovery.proofs.recovery.Recovery.on_page.Goals as goal

pub take_page-requires-clause-entries : goal.take_page-requires-clause-entries
take_page-requires-clause-entries c = in_place c.args.page.now.entries.now c.requires.page.entries

pub returns-in_ok-take_page-clause-value : goal.returns-in_ok-take_page-clause-value
returns-in_ok-take_page-clause-value c =
    let a = c.self.inside in
    let p = c.args.page.now in
    let h : shown_ending a.ending ≡ Goes = ap (λ (r : Recovering). r.ending) c.self.view_is ∙ c.requires.going in
    subst (λ (r : Recovering). held a.spec a.epoch a.ballot a.lost c.take_page.new.self a.ending ≡ replied r c.args.node (DigestPage p.from p.upto p.trim p.lng p.entries.now)) c.self.view_is
    (page_value a.spec a.epoch a.ballot a.lost a.stage c.take_page.new.self a.ending c.args.node p.from p.upto p.trim p.lng p.entries.now h c.self.invariant.0 (sym c.epoch.ensures ∙ c.if-epoch-self.true) c.in_ok-take_page.ensures.shown)

pub returns-in_ok-take_page-clause-sent : goal.returns-in_ok-take_page-clause-sent
returns-in_ok-take_page-clause-sent c =
    let a = c.self.inside in
    let p = c.args.page.now in
    let h : shown_ending a.ending ≡ Goes = ap (λ (r : Recovering). r.ending) c.self.view_is ∙ c.requires.going in
    c.in_ok-take_page.ensures.sent ∙ subst (λ (r : Recovering). c.args.out.now ++ sent c.sender-sender.result (page_sends a.lost a.stage c.args.node p.from p.upto p.trim p.lng p.entries.now) ≡ c.args.out.now ++ reply_messages r c.args.node (DigestPage p.from p.upto p.trim p.lng p.entries.now)) c.self.view_is
    (ap (λ (l : List Msg). c.args.out.now ++ l) (page_sends_are a.spec a.epoch a.ballot a.lost a.stage a.ending c.sender-sender.result c.args.node p.from p.upto p.trim p.lng p.entries.now h c.self.invariant.0 (sym c.epoch.ensures ∙ c.if-epoch-self.true)
    (c.sender-sender.ensures.log ∙ sym (ap (λ (r : Recovering). r.recovery.spec.log) c.self.view_is)) (c.sender-sender.ensures.epoch ∙ sym (ap (λ (r : Recovering). r.ballot) c.self.view_is))))

pub returns-else-epoch-self-clause-value : goal.returns-else-epoch-self-clause-value
returns-else-epoch-self-clause-value c =
    let p = c.args.page.now in
    sym (page_elsewhere c.args.self.now c.args.node p.from p.upto p.trim p.lng p.entries.now c.requires.going (λ e. c.if-epoch-self.false (c.epoch.ensures ∙ (e ∙ sym (ap (λ (r : Recovering). r.recovery.epoch) c.self.view_is))))).value

pub returns-else-epoch-self-clause-sent : goal.returns-else-epoch-self-clause-sent
returns-else-epoch-self-clause-sent c =
    let p = c.args.page.now in
    let q = page_elsewhere c.args.self.now c.args.node p.from p.upto p.trim p.lng p.entries.now c.requires.going (λ e. c.if-epoch-self.false (c.epoch.ensures ∙ (e ∙ sym (ap (λ (r : Recovering). r.recovery.epoch) c.self.view_is)))) in
    sym (ap (λ (l : List Msg). c.args.out.now ++ l) q.sent ∙ append-nil c.args.out.now)

pub invariant_of-self : goal.invariant_of-self
invariant_of-self c =
    let a = c.self.inside in
    let p = c.args.page.now in (
      subst (λ (b : ℕ). IsOf c.self.inside.spec c.self.inside.epoch b c.take_page.new.self) (c.sender-sender.ensures.epoch ∙ sym (ap (λ (r : Recovering). r.ballot) c.self.view_is)) c.take_page.ensures.of,
      c.self.invariant.1,
      c.self.invariant.2,
      c.self.invariant.3,
      c.self.invariant.4,
      c.self.invariant.5,
      subst (IsStage a.epoch) (sym c.in_ok-take_page.ensures.shown) (page_is a.epoch a.ballot c.self.invariant.2 c.self.invariant.3 c.self.invariant.4 a.spec c.self.invariant.7 c.args.node p.from p.upto p.trim p.lng p.entries.now c.requires.page (omega (arith, c.value.ensures)) c.requires.lng a.stage c.self.invariant.0 c.self.invariant.6),
      c.self.invariant.7,
    )

pub invariant_of-self-in_err-take_page : goal.invariant_of-self-in_err-take_page
invariant_of-self-in_err-take_page c = (
  subst (λ (b : ℕ). IsOf c.self.inside.spec c.self.inside.epoch b c.take_page.new.self) (c.sender-sender.ensures.epoch ∙ sym (ap (λ (r : Recovering). r.ballot) c.self.view_is)) c.take_page.ensures.of,
  c.self.invariant.1,
  c.self.invariant.2,
  c.self.invariant.3,
  c.self.invariant.4,
  c.self.invariant.5,
  subst (λ (t : Stage). IsStage c.self.inside.epoch (shown t)) (sym c.in_err-take_page.ensures.stopped) tt,
  c.self.invariant.7,
)

pub returns-in_ok-take_page-clause-messages : goal.returns-in_ok-take_page-clause-messages
returns-in_ok-take_page-clause-messages c =
    let a = c.self.inside in
    let p = c.args.page.now in
    let x = c.sender-sender.result in
    let l = c.sender-sender.ensures.log ∙ sym (ap (λ (r : Recovering). r.recovery.spec.log) c.self.view_is) in
    let b = c.sender-sender.ensures.epoch ∙ sym (ap (λ (r : Recovering). r.ballot) c.self.view_is) in
    let bs = page_sends a.lost a.stage c.args.node p.from p.upto p.trim p.lng p.entries.now in
    sent_behind x.epoch x.log bs c.args.out.now c.take_page.new.out (subst IsLog (sym l) c.self.invariant.7.log)
    (subst (λ (o : ℕ). Posts o bs) (sym b) (page_sent a.epoch a.ballot c.self.invariant.2 c.self.invariant.3 c.self.invariant.4 a.spec c.self.invariant.7 c.args.node p.from p.upto p.trim p.lng p.entries.now c.requires.page (omega (arith, c.value.ensures)) c.requires.lng a.lost a.stage c.self.invariant.0 c.self.invariant.6)) c.in_ok-take_page.ensures.sent
