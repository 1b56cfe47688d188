use Rattle.std.proofs.Common.{◌++◌, ◌∙◌, refl, ap}
use Rattle.ld_ids.specs.Set.{members}
use Rattle.ld_msg.specs.declared.msg.Body.TheVariants.{Trim}
use Rattle.ld_msg.specs.Sequencer.{to_each}
use Rattle.ld_machine.specs.Step.{trim_done as row}
use Rattle.ld_sequencer.specs.Whole.{sent_as}
use Rattle.ld_clients.specs.Acting.{Stays}
use Rattle.ld_clients.proofs.Acting.{gone_done, trim_done, trim_refused}
use Rattle.ld_clients.proofs.client.Client.trim.Goals as goal

pub returns-in_default : goal.returns-in_default
returns-in_default c = λ d s h. gone_done d s c.args.name.now c.args.self.now c.in_default.field-0 c.in_default.field-1 h c.in_default.is c.nothing.result (Stays s) (λ q. row d s c.args.name.now q c.args.point) refl c.nothing.ensures.lines c.nothing.ensures.sends

pub returns-in_ok-outcome-in-Ok : goal.returns-in_ok-outcome-in-Ok
returns-in_ok-outcome-in-Ok c = λ d s h. trim_done d s c.args.name.now c.args.self.now h c.requires c.in-Live.sequencer c.in-Live.is c.args.point c.in_ok-name-in-Ok.name c.in_ok-outcome-in-Ok.outcome c.in-Ok.ensures.within c.in_ok-name-in-Ok.ensures c.in_ok-outcome-in-Ok.ensures.lines
    (c.in_ok-outcome-in-Ok.ensures.sends ∙ (c.in-Ok.ensures.out ∙ ap (λ x. x ++ sent_as c.in-Live.sequencer (to_each (Trim c.args.point) (members c.in-Live.sequencer.origin.nodes))) c.empty-sends.ensures))

pub returns-in_ok-outcome-in-Err : goal.returns-in_ok-outcome-in-Err
returns-in_ok-outcome-in-Err c = λ d s h. trim_refused d s c.args.name.now c.args.self.now h c.requires c.in-Live.sequencer c.in-Live.is c.args.point c.in-Err.fault c.in_ok-outcome-in-Err.outcome c.in-Err.ensures.refused c.in_ok-outcome-in-Err.ensures.memory c.in_ok-outcome-in-Err.ensures.lines
    (c.in_ok-outcome-in-Err.ensures.sends ∙ (c.in-Err.ensures.unsent ∙ c.empty-sends.ensures))
