use Rattle.std.proofs.Common.{◌∙◌, sym, ap}
use Rattle.ld_msg.specs.Network.{oldest_new}
use Rattle.ld_register.proofs.Committing.{on_err}
use Rattle.ld_cluster.proofs.Flowing.{flown_by, flown_in_part}
use Rattle.ld_cluster.proofs.cluster.Cluster.flow.Goals as goal

pub returns-clause-step : goal.returns-clause-step
returns-clause-step c = flown_by c.args.self.now c.take.new.self c.args.lines.now c.take.new.lines c.in-Some.message (ap oldest_new c.requires.reached.parts.network ∙ sym c.in-Some.ensures) c.in_ok-take.ensures.whole

pub returns-in_err-take-clause-part : goal.returns-in_err-take-clause-part
returns-in_err-take-clause-part c = on_err c.from_residual.result _ (flown_in_part c.args.self.now c.take.new.self c.args.lines.now c.take.new.lines c.in-Some.message (ap oldest_new c.requires.reached.parts.network ∙ sym c.in-Some.ensures) c.in_err-take.ensures.part)
