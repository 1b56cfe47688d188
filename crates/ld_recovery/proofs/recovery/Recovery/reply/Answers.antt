use Rattle.std.proofs.Common.{◌++◌, List, ap, sym, ◌∙◌, append-nil}
use Rattle.ld_msg.specs.declared.msg.Msg.{Msg}
use Rattle.ld_recovery.proofs.Replies.{other_body}
use Rattle.ld_recovery.proofs.recovery.Recovery.reply.Goals as goal

pub returns-in_default : goal.returns-in_default
returns-in_default c =
    let q = other_body c.args.self.now c.args.node c.args.body.now c.requires.going c.in_default.not-Stored c.in_default.not-SealedHere c.in_default.not-LostHere c.in_default.not-CleanHere c.in_default.not-TrimmedHere c.in_default.not-DigestPage in
    record { value = sym q.value; sent = sym (ap (λ (l : List Msg). c.args.out.now ++ l) q.sent ∙ append-nil c.args.out.now); unsent = tt; messages = λ a. a }
