use Rattle.std.proofs.Common.{◌∙◌, sym}
use Rattle.ld_cluster.specs.Standing.{state_of}
use Rattle.ld_cluster.proofs.Setting.{not_set, set_done}
use Rattle.ld_cluster.proofs.cluster.Cluster.set.Goals as goal

pub returns-then-not-can_set-clause-done : goal.returns-then-not-can_set-clause-done
returns-then-not-can_set-clause-done c = not_set c.args.self.now (state_of c.args.self.now) c.requires.reached.parts c.args.log c.args.r c.args.extras c.args.set c.nothing.result (sym c.can_set.ensures ∙ c.if-not-can_set.true) c.nothing.ensures.lines c.nothing.ensures.sends

pub returns-clause-done : goal.returns-clause-done
returns-clause-done c = set_done c.args.self.now (state_of c.args.self.now) c.requires.reached.parts c.args.log c.args.r c.args.extras c.args.set c.in_ok-outcome.outcome c.put.new.self (sym c.can_set.ensures ∙ c.if-not-can_set.false) c.in_ok-put.ensures c.in_ok-outcome.ensures.lines c.in_ok-outcome.ensures.sends
