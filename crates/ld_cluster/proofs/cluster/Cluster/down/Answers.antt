use Rattle.std.proofs.Common.{◌∙◌, sym}
use Rattle.ld_cluster.specs.Standing.{state_of}
use Rattle.ld_cluster.proofs.Stopping.{not_stopped, stopped_done}
use Rattle.ld_cluster.proofs.cluster.Cluster.down.Goals as goal

pub returns-then-not-can_stop-clause-done : goal.returns-then-not-can_stop-clause-done
returns-then-not-can_stop-clause-done c = not_stopped c.args.self.now (state_of c.args.self.now) c.requires.reached.parts c.args.node c.nothing.result (sym (c.can_stop.ensures (state_of c.args.self.now) c.requires.reached.parts) ∙ c.if-not-can_stop.true) c.nothing.ensures.lines c.nothing.ensures.sends

pub returns-clause-done : goal.returns-clause-done
returns-clause-done c = stopped_done c.args.self.now (state_of c.args.self.now) c.requires.reached.parts c.args.node c.in_ok-outcome.outcome c.stop.new.self (sym (c.can_stop.ensures (state_of c.args.self.now) c.requires.reached.parts) ∙ c.if-not-can_stop.false) (c.in_ok-stop.ensures _ _ c.requires.reached.parts.nodes) c.in_ok-outcome.ensures.lines c.in_ok-outcome.ensures.sends
