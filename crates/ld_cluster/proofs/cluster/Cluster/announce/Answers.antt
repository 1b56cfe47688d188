use Rattle.std.proofs.Common.{refl}
use Rattle.ld_cluster.specs.Standing.{config_of, state_of}
use Rattle.ld_register.specs.Arming.{Foresees}
use Rattle.ld_cluster.proofs.Parting.{acted_done, room_is}
use Rattle.ld_cluster.proofs.cluster.Cluster.announce.Goals as goal

pub returns-clause-done : goal.returns-clause-done
returns-clause-done c = acted_done c.args.self.now (record c.args.self.now { sequencers = c.calm.new.self; register = c.calm.new.reg }) (state_of c.args.self.now) c.in_ok-outcome.outcome (λ r. Foresees c.calm.new.reg r) _ c.requires.reached.parts refl refl refl refl refl refl
    (c.in_ok-outcome.ensures.done (config_of c.args.self.now) (state_of c.args.self.now) c.requires.reached.parts.sequencers c.requires.reached.parts.register (λ l h. room_is (config_of c.args.self.now) (state_of c.args.self.now) c.requires.reached.sound c.requires.reached.bounds l h)) (λ t. t) (c.calm.ensures.logs (config_of c.args.self.now) c.requires.reached.parts.sequencers.logs)
