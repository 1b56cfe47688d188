use Rattle.std.proofs.Common.{◌++◌, ap, sym, subst, ◌∙◌}
use Rattle.ld_msg.specs.Bounds.{IsEpoch}
use Rattle.ld_sequencer.specs.Own.{sent_by, released_above}
use Rattle.ld_sequencer.proofs.Replies.{heard_sent}
use Rattle.ld_sequencer.proofs.Kept.{kept_by}
use Rattle.ld_sequencer.proofs.own.OwnEpoch.on_reply.Goals as goal

pub returns-clause-out : goal.returns-clause-out
returns-clause-out c =
    heard_sent c.args.self.now c.hear-report.new.self c.in-Node.node c.args.msg.now.from c.args.msg.now.body c.hear-report.result c.args.out.now c.tell_released.new.out c.in-Node.is c.hear-report.ensures
    (c.in_ok-tell_released.ensures.sent ∙ ap (λ r. c.args.out.now ++ sent_by c.hear-report.new.self (released_above r c.hear-report.new.self)) c.released-released.ensures)

pub returns-in_err-tell_released-clause-kept : goal.returns-in_err-tell_released-clause-kept
returns-in_err-tell_released-clause-kept c = kept_by c.args.self.now c.hear-report.new.self c.hear-report.result c.in-Node.node c.args.msg.now.body c.hear-report.ensures

pub returns-clause-kept : goal.returns-clause-kept
returns-clause-kept c = kept_by c.args.self.now c.hear-report.new.self c.hear-report.result c.in-Node.node c.args.msg.now.body c.hear-report.ensures

pub returns-in_err-tell_released-clause-messages : goal.returns-in_err-tell_released-clause-messages
returns-in_err-tell_released-clause-messages c = λ e a. c.tell_released.ensures.messages (subst IsEpoch (sym (kept_by c.args.self.now c.hear-report.new.self c.hear-report.result c.in-Node.node c.args.msg.now.body c.hear-report.ensures).epoch) e) a

pub returns-clause-messages : goal.returns-clause-messages
returns-clause-messages c = λ e a. c.tell_released.ensures.messages (subst IsEpoch (sym (kept_by c.args.self.now c.hear-report.new.self c.hear-report.result c.in-Node.node c.args.msg.now.body c.hear-report.ensures).epoch) e) a
