use Rattle.std.proofs.Common.{refl, subst}
use Rattle.ld_cluster.specs.Standing.{state_of}
use Rattle.ld_machine.specs.Step.{armed}
use Rattle.ld_register.specs.Arming.{Foresees}
use Rattle.ld_cluster.proofs.Stopping.{armed_done}
use Rattle.ld_cluster.proofs.cluster.Cluster.fail_register.Goals as goal

pub returns : goal.returns
returns c = armed_done c.args.self.now (record c.args.self.now { register = c.arm.new.self }) (state_of c.args.self.now) c.args.call c.args.done c.nothing.result c.requires.reached.parts refl refl refl refl refl refl refl (subst (λ x. Foresees c.arm.new.self (armed (state_of c.args.self.now).register x c.args.done)) c.from.ensures (c.arm.ensures.tells _ c.requires.reached.parts.register)) c.nothing.ensures.lines c.nothing.ensures.sends
