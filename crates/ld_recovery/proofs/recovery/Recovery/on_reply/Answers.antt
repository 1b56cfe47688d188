use Rattle.std.proofs.Common.{◌++◌, List, inl, ap, sym, ◌∙◌, append-nil}
use Rattle.std.proofs.lemmas.Result.{on_ok_weaker}
use Rattle.ld_msg.specs.declared.msg.Msg.{Msg}
use Rattle.ld_recovery.specs.Recovering.{sender_of}
use Rattle.ld_recovery.specs.States.{state_of}
use Rattle.ld_recovery.proofs.Holding.{goes_if}
use Rattle.ld_recovery.proofs.Told.{stranger, told}
use Rattle.ld_recovery.proofs.recovery.Recovery.on_reply.Goals as goal

pub returns-in_default : goal.returns-in_default
returns-in_default c =
    let m = c.args.msg.now in
    let q = stranger c.args.self.now (sender_of m.from) m.from m.to m.body (goes_if c.args.self.now.ending c.if-not-goes_on.ensures) c.in_default.not-Node c.requires.fits in
    record { value = sym q.value; sent = sym (ap (λ (l : List Msg). c.args.out.now ++ l) q.sent ∙ append-nil c.args.out.now); done = λ y h. inl h; unsent = tt; messages = λ a. a }

pub returns-in-Node-clause-done : goal.returns-in-Node-clause-done
returns-in-Node-clause-done c = on_ok_weaker c.reply.result (λ v y d. told c.args.self.now c.in-Node.node c.args.msg.now.body y (sym (ap state_of v) ∙ d)) c.reply.ensures.value
