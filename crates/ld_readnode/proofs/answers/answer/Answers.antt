use Rattle.std.proofs.Common.{◌∙◌, ap}
use Rattle.ld_op.specs.Plain.{log_of}
use Rattle.ld_readnode.specs.Answered.{back}
use Rattle.ld_readnode.proofs.Copies.{read_is}
use Rattle.ld_readnode.proofs.answers.answer.Goals as goal

pub returns-in_ok-body-in-ReadAsk : goal.returns-in_ok-body-in-ReadAsk
returns-in_ok-body-in-ReadAsk c =
    let p = c.args.plain.now.state in
    let m = c.args.msg.now in
    c.new.ensures ∙ ap (back m) (read_is p.generation (log_of p m.log) c.args.released c.in-ReadAsk.round c.in-ReadAsk.from m.body c.in_ok-body-in-ReadAsk.body c.in-ReadAsk.is c.in_ok-body-in-ReadAsk.ensures)
