use Rattle.std.proofs.Common.{◌∙◌}
use Rattle.std.proofs.lemmas.Result.{IfOk-weaker}
use Rattle.ld_op.proofs.Carried.{all_carried}
use Rattle.ld_op.proofs.plain.Plain.excerpt.Goals as goal

pub returns-clause-entries : goal.returns-clause-entries
returns-clause-entries c = IfOk-weaker c.excerpt_of.result _ _ (λ page is. is ∙ all_carried _) c.excerpt_of.ensures.entries
