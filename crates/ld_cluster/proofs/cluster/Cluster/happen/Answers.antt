use Rattle.std.proofs.Common.{sym, subst}
use Rattle.ld_schedule.specs.declared.event.Event.{Event}
use Rattle.ld_machine.specs.Step.{happens}
use Rattle.ld_cluster.specs.Standing.{config_of, state_of}
use Rattle.ld_cluster.specs.Outcomes.{IsDone}
use Rattle.ld_cluster.proofs.Stopping.{nothing_calms, nothing_flows}
use Rattle.ld_cluster.proofs.cluster.Cluster.happen.Goals as goal

pub returns-in-Flow-clause-done : goal.returns-in-Flow-clause-done
returns-in-Flow-clause-done c = subst (λ (e : Event). IsDone c.args.self.now c.args.self.now c.nothing.result (happens (config_of c.args.self.now) (state_of c.args.self.now) e)) (sym c.in-Flow.is)
    (nothing_flows c.args.self.now (state_of c.args.self.now) _ c.nothing.result c.requires.reached.parts c.nothing.ensures.lines c.nothing.ensures.sends)

pub returns-in-Calm-clause-done : goal.returns-in-Calm-clause-done
returns-in-Calm-clause-done c = subst (λ (e : Event). IsDone c.args.self.now c.args.self.now c.nothing-in-Calm.result (happens (config_of c.args.self.now) (state_of c.args.self.now) e)) (sym c.in-Calm.is)
    (nothing_calms c.args.self.now (state_of c.args.self.now) c.nothing-in-Calm.result c.requires.reached.parts c.nothing-in-Calm.ensures.lines c.nothing-in-Calm.ensures.sends)
