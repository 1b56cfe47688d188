use Rattle.std.proofs.Common.{refl}
use Rattle.ld_cluster.specs.Standing.{config_of, state_of}
use Rattle.ld_register.specs.Arming.{Foresees}
use Rattle.ld_cluster.proofs.Parting.{acted_done, room_is}
use Rattle.ld_cluster.proofs.Setting.{can_fix}
use Rattle.ld_cluster.proofs.cluster.Cluster.activate.Goals as goal

pub activate-requires-clause-spec : goal.activate-requires-clause-spec
activate-requires-clause-spec c = can_fix c.args.self.now c.args.log c.spec_set-spec.result c.requires.reached (c.spec_set-spec.ensures (state_of c.args.self.now) c.requires.reached.parts)

pub returns-clause-done : goal.returns-clause-done
returns-clause-done c = acted_done c.args.self.now (record c.args.self.now { sequencers = c.activate.new.self; register = c.activate.new.reg }) (state_of c.args.self.now) c.in_ok-outcome.outcome (λ r. Foresees c.activate.new.reg r) _ c.requires.reached.parts refl refl refl refl refl refl
    (c.in_ok-outcome.ensures.done (state_of c.args.self.now) c.requires.reached.parts.sequencers c.requires.reached.parts.register (λ l h. room_is (config_of c.args.self.now) (state_of c.args.self.now) c.requires.reached.sound c.requires.reached.bounds l h) (c.spec_set-spec.ensures (state_of c.args.self.now) c.requires.reached.parts)) (λ t. t) (c.activate.ensures.logs c.requires.reached.parts.sequencers.logs)
