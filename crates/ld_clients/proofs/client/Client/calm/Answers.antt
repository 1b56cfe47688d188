use Rattle.std.proofs.Common.{◌∙◌}
use Rattle.ld_msg.specs.Sequencer.{on_retry as reacts}
use Rattle.ld_machine.specs.Calm.{calms_acts}
use Rattle.ld_machine.specs.Config.{looks_at}
use Rattle.ld_clients.proofs.Acting.{gone_done, calm_done, retried_goes}
use Rattle.ld_clients.proofs.client.Client.calm.Goals as goal

pub returns-in_default-clause-done : goal.returns-in_default-clause-done
returns-in_default-clause-done g c = λ d s h t r. gone_done d s c.args.name.now c.args.self.now c.in_default.field-0 c.in_default.field-1 h c.in_default.is c.nothing.result (g.G.Register.tells c.args.reg.now) (λ q. calms_acts d s c.args.name.now q (reacts (looks_at d s.register q.log) q)) t c.nothing.ensures.lines c.nothing.ensures.sends

pub returns-clause-done : goal.returns-clause-done
returns-clause-done g c = λ d s h t r. calm_done d s c.args.name.now c.args.self.now h c.requires c.in-Live.sequencer c.in-Live.is c.retry-answer.result c.retry-answer.new.self
    (retried_goes c.args.self.now c.in-Live.sequencer c.in-Live.is c.retry-answer.new.self c.retry-answer.result c.empty-sends.result c.retry-answer.new.out c.retry-answer.ensures.acted c.retry-answer.ensures.refused c.in_ok-outcome.ensures.memory)
    c.empty-sends.result c.retry-answer.new.out c.in_ok-outcome.outcome (g.G.Register.tells c.retry-answer.new.reg)
    (c.retry-answer.ensures.exact s.register t) (c.retry-answer.ensures.crowded s.register t) c.in_ok-outcome.ensures.memory r c.empty-sends.ensures c.in_ok-outcome.ensures.lines (c.in_ok-outcome.ensures.sends ∙ c.in_ok-sends.ensures.told)

pub returns-clause-goes_on : goal.returns-clause-goes_on
returns-clause-goes_on g c = retried_goes c.args.self.now c.in-Live.sequencer c.in-Live.is c.retry-answer.new.self c.retry-answer.result c.empty-sends.result c.retry-answer.new.out c.retry-answer.ensures.acted c.retry-answer.ensures.refused c.in_ok-outcome.ensures.memory
