use Rattle.std.proofs.Common.{◌++◌, ◌∙◌, length, refl, sym, ap}
use Rattle.ld_msg.specs.Sequencer.{appending, appended, first_stores}
use Rattle.ld_machine.specs.Step.{append_done as row}
use Rattle.ld_sequencer.specs.Own.{append_fault}
use Rattle.ld_sequencer.specs.Whole.{as_now, sent_as}
use Rattle.ld_clients.specs.Acting.{Stays}
use Rattle.ld_clients.proofs.Acting.{gone_done, append_done, append_refused, appended_goes}
use Rattle.ld_clients.proofs.client.Client.append.Goals as goal

pub returns-in_default-clause-done : goal.returns-in_default-clause-done
returns-in_default-clause-done c = λ d s h. gone_done d s c.args.name.now c.args.self.now c.in_default.field-0 c.in_default.field-1 h c.in_default.is c.nothing.result (Stays s) (λ q. row s c.args.name.now q c.args.payload.now (appending q c.args.payload.now)) refl c.nothing.ensures.lines c.nothing.ensures.sends

pub returns-in_ok-outcome-in-Ok-clause-done : goal.returns-in_ok-outcome-in-Ok-clause-done
returns-in_ok-outcome-in-Ok-clause-done c = λ d s h. append_done d s c.args.name.now c.args.self.now h c.requires c.in-Live.sequencer c.in-Live.is c.append.new.self c.args.payload.now c.in_ok-name-in-Ok.name c.in-Ok.number c.in_ok-outcome-in-Ok.outcome
    (c.in-Ok.ensures.now ∙ ap (λ p. as_now c.in-Live.sequencer (appended c.in-Live.sequencer.sequencer p)) c.in_ok-copy.ensures)
    (sym (ap (appending c.in-Live.sequencer.sequencer) c.in_ok-copy.ensures) ∙ c.in-Ok.ensures.taken)
    c.in_ok-name-in-Ok.ensures c.in-Ok.ensures.number c.in_ok-outcome-in-Ok.ensures.lines
    (c.in_ok-outcome-in-Ok.ensures.sends ∙ (c.in-Ok.ensures.out ∙ (λ i. c.empty-sends.ensures i ++ sent_as c.in-Live.sequencer (first_stores c.in-Live.sequencer.sequencer (c.in_ok-copy.ensures i)))))

pub returns-in_ok-outcome-in-Ok-clause-goes_on : goal.returns-in_ok-outcome-in-Ok-clause-goes_on
returns-in_ok-outcome-in-Ok-clause-goes_on c = appended_goes c.args.self.now c.in-Live.sequencer c.in-Live.is c.append.new.self c.in_ok-copy.copy c.in-Ok.ensures.now

pub returns-in_ok-outcome-in-Err-clause-done : goal.returns-in_ok-outcome-in-Err-clause-done
returns-in_ok-outcome-in-Err-clause-done c = λ d s h. append_refused d s c.args.name.now c.args.self.now h c.requires c.in-Live.sequencer c.in-Live.is c.append.new.self c.args.payload.now c.in-Err.fault c.in_ok-outcome-in-Err.outcome c.in-Err.ensures.same
    (c.in-Err.ensures.refused ∙ ap (λ p. append_fault (length p) (appending c.in-Live.sequencer.sequencer p)) c.in_ok-copy.ensures)
    c.in_ok-outcome-in-Err.ensures.memory c.in_ok-outcome-in-Err.ensures.lines (c.in_ok-outcome-in-Err.ensures.sends ∙ (c.in-Err.ensures.unsent ∙ c.empty-sends.ensures))
