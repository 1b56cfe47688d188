use Rattle.std.proofs.Common.{refl}
use Rattle.ld_register.specs.Arming.{Foresees}
use Rattle.ld_machine.specs.Step.{marked}
use Rattle.ld_cluster.specs.Standing.{config_of, state_of}
use Rattle.ld_cluster.proofs.Parting.{read_done}
use Rattle.ld_cluster.proofs.cluster.Cluster.to_reader.Goals as goal

pub returns-in-Ok-clause-done : goal.returns-in-Ok-clause-done
returns-in-Ok-clause-done c = read_done c.args.self.now (record c.args.self.now { readers = c.on_reply.new.self; register = c.on_reply.new.reg }) (marked (state_of c.args.self.now) c.args.number) c.in-Ok.outcome (λ r. Foresees c.on_reply.new.reg r) _ c.requires.stands.parts refl refl refl refl refl refl
    (c.in-Ok.ensures.done (config_of c.args.self.now) (marked (state_of c.args.self.now) c.args.number) c.requires.stands.parts.readers c.requires.stands.parts.register) (λ t. t) (c.on_reply.ensures.logs (config_of c.args.self.now) c.requires.stands.parts.readers.logs)
