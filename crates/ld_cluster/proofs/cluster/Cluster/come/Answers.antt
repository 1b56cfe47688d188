use Rattle.std.proofs.Common.{ap, refl}
use Rattle.ld_cluster.specs.Standing.{config_of, state_of}
use Rattle.ld_machine.specs.Step.{marked, comes_to}
use Rattle.ld_register.specs.Arming.{Foresees}
use Rattle.ld_cluster.proofs.Delivering.{goes_to}
use Rattle.ld_cluster.proofs.Parting.{acted_done, room_is}
use Rattle.ld_cluster.proofs.cluster.Cluster.come.Goals as goal

pub returns-in_ok-outcome-in-Node-clause-done : goal.returns-in_ok-outcome-in-Node-clause-done
returns-in_ok-outcome-in-Node-clause-done c = goes_to (config_of c.args.self.now) (marked (state_of c.args.self.now) c.args.number) c.args.msg.now c.args.self.now _ _ _ (ap (comes_to (config_of c.args.self.now) (marked (state_of c.args.self.now) c.args.number) c.args.msg.now) c.in-Node.is) c.in_ok-outcome-in-Node.ensures.done

pub returns-in_ok-outcome-in-Sequencer-clause-done : goal.returns-in_ok-outcome-in-Sequencer-clause-done
returns-in_ok-outcome-in-Sequencer-clause-done c = goes_to (config_of c.args.self.now) (marked (state_of c.args.self.now) c.args.number) c.args.msg.now c.args.self.now _ _ _ (ap (comes_to (config_of c.args.self.now) (marked (state_of c.args.self.now) c.args.number) c.args.msg.now) c.in-Sequencer.is)
    (acted_done c.args.self.now (record c.args.self.now { sequencers = c.on_reply.new.self; register = c.on_reply.new.reg }) (marked (state_of c.args.self.now) c.args.number) c.in_ok-outcome-in-Sequencer.outcome (λ r. Foresees c.on_reply.new.reg r) _ c.requires.stands.parts refl refl refl refl refl refl
    (c.in_ok-outcome-in-Sequencer.ensures.done (config_of c.args.self.now) (marked (state_of c.args.self.now) c.args.number) c.requires.stands.parts.sequencers c.requires.stands.parts.register (λ l h. room_is (config_of c.args.self.now) (marked (state_of c.args.self.now) c.args.number) c.requires.stands.sound c.requires.stands.bounds l h)) (λ t. t) (c.on_reply.ensures.logs (config_of c.args.self.now) c.requires.stands.parts.sequencers.logs))

pub returns-in_ok-outcome-in-Reader-clause-done : goal.returns-in_ok-outcome-in-Reader-clause-done
returns-in_ok-outcome-in-Reader-clause-done c = goes_to (config_of c.args.self.now) (marked (state_of c.args.self.now) c.args.number) c.args.msg.now c.args.self.now _ _ _ (ap (comes_to (config_of c.args.self.now) (marked (state_of c.args.self.now) c.args.number) c.args.msg.now) c.in-Reader.is) c.in_ok-outcome-in-Reader.ensures.done
