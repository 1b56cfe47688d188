use Rattle.std.proofs.Common.{◌∙◌, ap, refl, subst}
use Rattle.ld_schedule.specs.declared.event.Event.{Event}
use Rattle.ld_machine.specs.Run.{step}
use Rattle.ld_machine.specs.Step.{happens}
use Rattle.ld_bounds.specs.Sound.{IsEvent}
use Rattle.ld_cluster.specs.Standing.{config_of, state_of}
use Rattle.ld_cluster.specs.Steps.{steps_of, is_flow}
use Rattle.ld_cluster.specs.Outcomes.{IsDone}
use Rattle.ld_register.proofs.Committing.{on_err}
use Rattle.ld_cluster.proofs.Flowing.{untold, taken, taken_in_part}
use Rattle.ld_cluster.proofs.cluster.Cluster.take.Goals as goal

pub returns-clause-whole : goal.returns-clause-whole
returns-clause-whole c = taken c.args.self.now c.happen.new.self c.note.new.self c.args.event.now c.in_ok-copy.copy c.in_ok-outcome.outcome c.args.lines.now c.note.new.lines c.in_ok-copy.ensures c.requires.one c.events_are_events.ensures c.in_ok-outcome.ensures.done (λ e d. c.in_ok-note.ensures.whole c.args.self.now c.requires.reached e d)

pub returns-in_err-copy-clause-part : goal.returns-in_err-copy-clause-part
returns-in_err-copy-clause-part c = on_err c.from_residual.result _ (untold c.args.self.now c.args.self.now c.args.lines.now (step (config_of c.args.self.now) (state_of c.args.self.now) c.args.event.now) (steps_of (config_of c.args.self.now) (state_of c.args.self.now) c.args.event.now) (record { config = refl; past = refl }))

pub returns-in_err-outcome-clause-part : goal.returns-in_err-outcome-clause-part
returns-in_err-outcome-clause-part c = on_err c.from_residual-in_err-outcome.result _ (untold c.args.self.now c.happen.new.self c.args.lines.now (step (config_of c.args.self.now) (state_of c.args.self.now) c.args.event.now) (steps_of (config_of c.args.self.now) (state_of c.args.self.now) c.args.event.now) c.in_err-outcome.ensures.same)

pub returns-in_err-note-clause-part : goal.returns-in_err-note-clause-part
returns-in_err-note-clause-part c = on_err c.from_residual-in_err-note.result _ (taken_in_part c.args.self.now c.happen.new.self c.note.new.self c.args.event.now c.in_ok-copy.copy c.in_ok-outcome.outcome c.args.lines.now c.note.new.lines c.in_ok-copy.ensures c.requires.one c.in_ok-outcome.ensures.done (λ d. c.in_err-note.ensures.part c.args.self.now d))
