use Rattle.std.proofs.Common.{ℕ, ◌∙◌, refl, sym, subst}
use Rattle.ld_table.specs.Named.{find_named}
use Rattle.ld_schedule.specs.declared.event.Event.TheVariants.{Activate}
use Rattle.ld_machine.specs.Step.{happens}
use Rattle.ld_sequencer.specs.Looks.{shows}
use Rattle.ld_sequencer.specs.Whole.{origin_of}
use Rattle.ld_clients.specs.Acting.{IsActed}
use Rattle.ld_clients.specs.Serving.{KnowTheirLogs}
use Rattle.ld_clients.proofs.Names.{none_is}
use Rattle.ld_clients.proofs.Bounds.{first_fits}
use Rattle.ld_clients.proofs.Activating.{taken_done, unknown_done, granted_done, refused_done, know_active, active_whole, of_log}
use Rattle.ld_clients.proofs.sequencers.Sequencers.activate.Goals as goal

pub returns-then-has-clause-done : goal.returns-then-has-clause-done
returns-then-has-clause-done g c = λ s h t r e. taken_done c.args.config.now s c.args.self.now h c.args.name.now c.nothing.result (g.G.Register.tells c.args.reg.now) c.args.log (sym c.has.ensures ∙ c.if-has.true) t c.nothing.ensures.lines c.nothing.ensures.sends

pub returns-in_default-clause-done : goal.returns-in_default-clause-done
returns-in_default-clause-done g c = λ s h t r e. unknown_done c.args.config.now s c.args.self.now h c.args.name.now c.nothing-in_default.result (g.G.Register.tells c.args.reg.now) c.args.log c.in_default.ensures.none t c.nothing-in_default.ensures.lines c.nothing-in_default.ensures.sends

pub activate-requires-clause-spec : goal.activate-requires-clause-spec
activate-requires-clause-spec g c = (c.requires.spec c.in-Some.ensures.found.1).is

pub activate-requires-clause-first : goal.activate-requires-clause-first
activate-requires-clause-first g c = first_fits c.args.config.now c.args.log c.args.spec.now.log c.in-Some.first c.requires.config c.in-Some.ensures.found.0 c.in-Some.ensures.found.1 (c.requires.spec c.in-Some.ensures.found.1).log

pub begin-requires-clause-whole : goal.begin-requires-clause-whole
begin-requires-clause-whole g c = active_whole (origin_of c.args.config.now.nodes c.in-Some.first) c.args.spec.now (shows c.in-Ok.ensures.active.2) c.in-Ok.ensures.active.0 c.in-Ok.sequencer c.empty-sends.result c.activate.new.out c.in-Ok.ensures.active.4

pub begin-requires-clause-new : goal.begin-requires-clause-new
begin-requires-clause-new g c = none_is (find_named c.args.name.now c.args.self.now) (sym c.has.ensures ∙ c.if-has.false)

pub returns-in_err-outcome-in-Ok-clause-logs : goal.returns-in_err-outcome-in-Ok-clause-logs
returns-in_err-outcome-in-Ok-clause-logs g c = λ k. subst (KnowTheirLogs c.args.config.now) (sym c.in_err-outcome-in-Ok.ensures.err) k

pub returns-in_ok-outcome-in-Ok-clause-done : goal.returns-in_ok-outcome-in-Ok-clause-done
returns-in_ok-outcome-in-Ok-clause-done g c = λ s h t r e. of_log c.args.config.now s c.args.log c.args.spec.now c.in-Some.first (λ (l : ℕ). IsActed s c.begin.new.self c.in_ok-outcome-in-Ok.outcome (g.G.Register.tells c.activate.new.reg) (happens c.args.config.now s (Activate c.args.name.now l)))
    (c.requires.spec c.in-Some.ensures.found.1).log c.in-Some.ensures.found.0 c.in-Some.ensures.found.1 e
    (λ f k m. granted_done c.args.config.now s c.args.self.now h c.args.name.now c.in_ok-outcome-in-Ok.outcome (g.G.Register.tells c.activate.new.reg) c.args.spec.now c.in-Some.first f k m (sym c.has.ensures ∙ c.if-has.false) r
    c.in-Ok.sequencer c.empty-sends.result c.activate.new.out c.args.name.now c.begin.new.self _ (c.in-Ok.ensures.exact s.register t) c.empty-sends.ensures refl c.in_ok-outcome-in-Ok.ensures.sequencers c.in_ok-outcome-in-Ok.ensures.lines c.in_ok-outcome-in-Ok.ensures.sends)

pub returns-in_ok-outcome-in-Ok-clause-logs : goal.returns-in_ok-outcome-in-Ok-clause-logs
returns-in_ok-outcome-in-Ok-clause-logs g c = λ k. subst (KnowTheirLogs c.args.config.now) (sym c.in_ok-outcome-in-Ok.ensures.sequencers)
    (know_active c.args.config.now c.args.self.now c.args.name.now c.args.log c.args.spec.now c.in-Some.first (shows c.in-Ok.ensures.active.2) c.in-Ok.ensures.active.0 c.in-Ok.sequencer c.empty-sends.result c.activate.new.out c.in-Some.ensures.found.0 c.in-Some.ensures.found.1
    (c.requires.spec c.in-Some.ensures.found.1).log c.in-Ok.ensures.active.4 k)

pub returns-in_ok-outcome-in-Err-clause-done : goal.returns-in_ok-outcome-in-Err-clause-done
returns-in_ok-outcome-in-Err-clause-done g c = λ s h t r e. of_log c.args.config.now s c.args.log c.args.spec.now c.in-Some.first (λ (l : ℕ). IsActed s c.args.self.now c.in_ok-outcome-in-Err.outcome (g.G.Register.tells c.activate.new.reg) (happens c.args.config.now s (Activate c.args.name.now l)))
    (c.requires.spec c.in-Some.ensures.found.1).log c.in-Some.ensures.found.0 c.in-Some.ensures.found.1 e
    (λ f k m. refused_done c.args.config.now s c.args.self.now h c.args.name.now c.in_ok-outcome-in-Err.outcome (g.G.Register.tells c.activate.new.reg) c.args.spec.now c.in-Some.first f k m (sym c.has.ensures ∙ c.if-has.false) r
    c.empty-sends.result c.activate.new.out c.in-Err.fault _ c.in_ok-outcome-in-Err.ensures.memory (c.in-Err.ensures.exact s.register t) c.empty-sends.ensures c.in_ok-outcome-in-Err.ensures.lines c.in_ok-outcome-in-Err.ensures.sends)
