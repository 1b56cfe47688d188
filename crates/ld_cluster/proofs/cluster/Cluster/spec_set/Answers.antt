use Rattle.std.proofs.Common.{◌∙◌, Some, None}
use Rattle.ld_cluster.proofs.Setting.{spec_is}
use Rattle.ld_cluster.proofs.cluster.Cluster.spec_set.Goals as goal

pub returns-in-Some : goal.returns-in-Some
returns-in-Some c = λ s p. spec_is c.args.self.now s c.args.log (Some c.in-Some.spec) p c.in-Some.ensures

pub returns-in-None : goal.returns-in-None
returns-in-None c = λ s p. c.spec_for.ensures ∙ spec_is c.args.self.now s c.args.log None p c.in-None.ensures
