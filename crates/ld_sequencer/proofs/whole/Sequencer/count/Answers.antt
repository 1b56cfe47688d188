use Rattle.std.proofs.Common.{◌∙◌, sym}
use Rattle.ld_sequencer.proofs.Spending.{counted_one}
use Rattle.ld_sequencer.proofs.whole.Sequencer.count.Goals as goal

pub invariant_of-self-in_ok-on_reply-4 : goal.invariant_of-self-in_ok-on_reply-4
invariant_of-self-in_ok-on_reply-4 c =
    counted_one c.args.self.now c.self.inside.own c.self.inside.recovery c.in-Some.recovery c.args.msg.now.from c.args.msg.now.body c.self.view_is c.self.invariant (sym c.take.ensures.value ∙ c.in-Some.is) c.requires.spends c.on_reply.new.self c.in_ok-on_reply.ensures.value
