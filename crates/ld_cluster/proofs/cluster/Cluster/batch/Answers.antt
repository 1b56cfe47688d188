use Rattle.std.proofs.Common.{sym, refl, subst}
use Rattle.ld_cluster.specs.Standing.{config_of, state_of}
use Rattle.ld_clients.specs.Acting.{Stays}
use Rattle.ld_register.specs.Arming.{Foresees}
use Rattle.ld_cluster.proofs.Parting.{acted_done}
use Rattle.ld_cluster.proofs.cluster.Cluster.batch.Goals as goal

pub returns-clause-done : goal.returns-clause-done
returns-clause-done c = acted_done c.args.self.now (record c.args.self.now { sequencers = c.batch.new.self }) (state_of c.args.self.now) c.in_ok-outcome.outcome (Stays (state_of c.args.self.now)) _ c.requires.reached.parts refl refl refl refl refl refl
    (c.in_ok-outcome.ensures.done (config_of c.args.self.now) (state_of c.args.self.now) c.requires.reached.parts.sequencers) (λ e. subst (λ r. Foresees c.args.self.now.register r) (sym e) c.requires.reached.parts.register) (c.batch.ensures.logs (config_of c.args.self.now) c.requires.reached.parts.sequencers.logs)
