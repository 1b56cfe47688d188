use Rattle.std.proofs.Common.{◌∙◌, ap, sym, subst}
use Rattle.ld_op.specs.Plain.{log_of}
use Rattle.ld_op.specs.Answers.{read_answer}
use Rattle.ld_msg.specs.declared.msg.Msg.{Msg}
use Rattle.ld_readnode.specs.Answered.{back, entries_read, AreSentBy}
use Rattle.ld_readnode.proofs.Copies.{one_is, sent_by}
use Rattle.ld_readnode.proofs.answers.answer_one.Goals as goal

pub returns-in_ok-body-in-ReadOne-clause-answer : goal.returns-in_ok-body-in-ReadOne-clause-answer
returns-in_ok-body-in-ReadOne-clause-answer c =
    let p = c.args.plain.now.state in
    let m = c.args.msg.now in
    let ask = c.in-ReadOne in
    c.new.ensures ∙ ap (back m) (one_is c.args.node p.generation (log_of p m.log) c.args.released ask.round ask.from ask.set ask.excluded m.body c.in_ok-body-in-ReadOne.body ask.is c.in_ok-body-in-ReadOne.ensures)

pub returns-in_ok-body-in-ReadOne-clause-senders : goal.returns-in_ok-body-in-ReadOne-clause-senders
returns-in_ok-body-in-ReadOne-clause-senders c round from set excluded is =
    let p = c.args.plain.now.state in
    let m = c.args.msg.now in
    let ask = c.in-ReadOne in
    subst (λ (d : Msg). AreSentBy c.args.node set excluded (entries_read d.body)) (sym c.new.ensures) (sent_by c.args.node m.body c.in_ok-body-in-ReadOne.body (read_answer p.generation (log_of p m.log) c.args.released ask.round ask.from) ask.round ask.from round from ask.set ask.excluded set excluded ask.is
    c.in_ok-body-in-ReadOne.ensures is)
