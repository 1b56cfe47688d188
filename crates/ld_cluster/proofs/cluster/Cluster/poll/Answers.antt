use Rattle.std.proofs.Common.{refl}
use Rattle.ld_register.specs.Arming.{Foresees}
use Rattle.ld_cluster.specs.Standing.{config_of, state_of}
use Rattle.ld_cluster.proofs.Parting.{read_done}
use Rattle.ld_cluster.proofs.cluster.Cluster.poll.Goals as goal

pub returns-in-Ok-clause-done : goal.returns-in-Ok-clause-done
returns-in-Ok-clause-done c = read_done c.args.self.now (record c.args.self.now { readers = c.poll.new.self; register = c.poll.new.reg }) (state_of c.args.self.now) c.in-Ok.outcome (λ r. Foresees c.poll.new.reg r) _ c.requires.reached.parts refl refl refl refl refl refl
    (c.in-Ok.ensures.done (config_of c.args.self.now) (state_of c.args.self.now) c.requires.reached.parts.readers c.requires.reached.parts.register) (λ t. t) (c.poll.ensures.logs (config_of c.args.self.now) c.requires.reached.parts.readers.logs)
