use Rattle.std.proofs.Common.{◌∙◌, sym}
use Rattle.ld_cluster.specs.Standing.{state_of}
use Rattle.ld_cluster.proofs.Stopping.{not_wiped, wiped_done}
use Rattle.ld_cluster.proofs.cluster.Cluster.wipe.Goals as goal

pub returns-then-not-has-clause-done : goal.returns-then-not-has-clause-done
returns-then-not-has-clause-done c = not_wiped c.args.self.now (state_of c.args.self.now) c.requires.reached.parts c.args.node c.nothing.result (sym c.has.ensures.member ∙ c.if-not-has.true) c.nothing.ensures.lines c.nothing.ensures.sends

pub returns-clause-done : goal.returns-clause-done
returns-clause-done c = wiped_done c.args.self.now (state_of c.args.self.now) c.requires.reached.parts c.args.node c.in_ok-outcome.outcome c.wipe.new.self (sym c.has.ensures.member ∙ c.if-not-has.false) (c.in_ok-wipe.ensures _ _ c.requires.reached.parts.nodes) c.in_ok-outcome.ensures.lines c.in_ok-outcome.ensures.sends
