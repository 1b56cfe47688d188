use Rattle.std.proofs.Common.{refl, sym, subst}
use Rattle.ld_register.specs.Arming.{Foresees}
use Rattle.ld_clients.specs.Acting.{Stays}
use Rattle.ld_cluster.specs.Standing.{state_of}
use Rattle.ld_cluster.proofs.Parting.{read_done}
use Rattle.ld_cluster.proofs.cluster.Cluster.open.Goals as goal

pub returns-clause-done : goal.returns-clause-done
returns-clause-done c = read_done c.args.self.now (record c.args.self.now { readers = c.open.new.self }) (state_of c.args.self.now) c.in_ok-outcome.outcome (Stays (state_of c.args.self.now)) _ c.requires.reached.parts refl refl refl refl refl refl
    (c.in_ok-outcome.ensures.done (state_of c.args.self.now) c.requires.reached.parts.readers) (λ e. subst (λ r. Foresees c.args.self.now.register r) (sym e) c.requires.reached.parts.register) (c.open.ensures.logs c.requires.reached.parts.readers.logs)
