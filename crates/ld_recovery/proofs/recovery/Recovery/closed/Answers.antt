use Rattle.std.proofs.Common.{◌≡◌, ◌++◌, List, ap, sym, subst, ◌∙◌, append-nil}
use Rattle.ld_msg.specs.declared.msg.Msg.{Msg}
use Rattle.ld_msg.specs.Register.{Answer, Behind}
use Rattle.ld_recovery.specs.Recovering.{Recovering, Ending, ended, closed_by, close_messages}
use Rattle.ld_recovery.specs.States.{answer_of, shown_ending}
use Rattle.ld_recovery.proofs.Replies.{behind_ends, behind_sends, overtaken_sends, fails_sends}
use Rattle.ld_recovery.proofs.Holding.{held}
use Rattle.ld_recovery.proofs.recovery.Recovery.closed.Goals as goal

pub returns-in-Behind-clause-value : goal.returns-in-Behind-clause-value
returns-in-Behind-clause-value c = λ y short h.
    let a = c.self.inside in
    let w = held a.spec a.epoch a.ballot a.lost a.stage a.ending in
    let e : answer_of c.args.answer ≡ Behind c.in-Behind.lce = ap answer_of c.in-Behind.is in
    subst (λ (r : Recovering). ended w (shown_ending c.behind-self-inside.result) ≡ closed_by r y (answer_of c.args.answer)) c.self.view_is
    (ap (λ (x : Ending). ended w x) (c.behind-self-inside.ensures.ending ∙ sym (behind_ends w y c.in-Behind.lce)) ∙ sym (ap (λ (d : Answer). closed_by w y d) e))

pub returns-in-Behind-clause-sent : goal.returns-in-Behind-clause-sent
returns-in-Behind-clause-sent c = λ y short h. sym (ap (λ (l : List Msg). c.args.out.now ++ l) (ap (λ (d : Answer). close_messages c.args.self.now y d) (ap answer_of c.in-Behind.is) ∙ behind_sends c.args.self.now y c.in-Behind.lce) ∙ append-nil c.args.out.now)

pub returns-in-Failed-clause-sent : goal.returns-in-Failed-clause-sent
returns-in-Failed-clause-sent c = λ y short h. sym (ap (λ (l : List Msg). c.args.out.now ++ l) (ap (λ (d : Answer). close_messages c.args.self.now y d) (ap answer_of c.in-Failed.is) ∙ fails_sends c.args.self.now y) ∙ append-nil c.args.out.now)

pub returns-in-Overtaken-clause-sent : goal.returns-in-Overtaken-clause-sent
returns-in-Overtaken-clause-sent c = λ y short h. sym (ap (λ (l : List Msg). c.args.out.now ++ l) (ap (λ (d : Answer). close_messages c.args.self.now y d) (ap answer_of c.in-Overtaken.is) ∙ overtaken_sends c.args.self.now y c.in-Overtaken.epoch) ∙ append-nil c.args.out.now)
