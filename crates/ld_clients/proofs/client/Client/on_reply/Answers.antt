use Rattle.ld_msg.specs.Sequencer.{on_reply as reacts}
use Rattle.ld_machine.specs.Config.{looks_at}
use Rattle.ld_machine.specs.Step.{acted, sender_node}
use Rattle.ld_clients.proofs.Acting.{gone_done, reply_done, replied_goes}
use Rattle.ld_clients.proofs.client.Client.on_reply.Goals as goal

pub returns-in_default-clause-done : goal.returns-in_default-clause-done
returns-in_default-clause-done g c = λ d s h t r. gone_done d s c.args.name.now c.args.self.now c.in_default.field-0 c.in_default.field-1 h c.in_default.is c.nothing.result (g.G.Register.tells c.args.reg.now) (λ q. acted d s c.args.name.now q (reacts (λ e. looks_at d s.register q.log e) q (sender_node c.args.msg.now.from) c.args.msg.now.body)) t c.nothing.ensures.lines c.nothing.ensures.sends

pub returns-clause-done : goal.returns-clause-done
returns-clause-done g c = λ d s h t r. reply_done d s c.args.name.now c.args.self.now h c.requires.whole c.in-Live.sequencer c.in-Live.is c.args.msg.now c.on_reply-answer.result c.on_reply-answer.new.self
    (replied_goes c.args.self.now c.in-Live.sequencer c.in-Live.is c.on_reply-answer.new.self c.on_reply-answer.result c.empty-sends.result c.on_reply-answer.new.out c.args.msg.now.from c.args.msg.now.body c.on_reply-answer.ensures.acted c.on_reply-answer.ensures.refused c.in_ok-outcome.ensures.memory)
    c.empty-sends.result c.on_reply-answer.new.out c.in_ok-outcome.outcome (g.G.Register.tells c.on_reply-answer.new.reg)
    (c.on_reply-answer.ensures.exact s.register t) (c.on_reply-answer.ensures.crowded s.register t) c.in_ok-outcome.ensures.memory r c.empty-sends.ensures c.in_ok-outcome.ensures.lines c.in_ok-outcome.ensures.sends

pub returns-clause-goes_on : goal.returns-clause-goes_on
returns-clause-goes_on g c = replied_goes c.args.self.now c.in-Live.sequencer c.in-Live.is c.on_reply-answer.new.self c.on_reply-answer.result c.empty-sends.result c.on_reply-answer.new.out c.args.msg.now.from c.args.msg.now.body c.on_reply-answer.ensures.acted c.on_reply-answer.ensures.refused c.in_ok-outcome.ensures.memory
