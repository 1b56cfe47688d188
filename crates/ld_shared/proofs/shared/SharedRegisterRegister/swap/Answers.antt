use Rattle.ld_shared.proofs.Alone.{meets_alone}
use Rattle.ld_shared.proofs.Calling.{answers_by}
use Rattle.ld_shared.proofs.Sole.{exact_counted}
use Rattle.ld_shared.proofs.shared.SharedRegisterRegister.swap.Goals as goal

pub returns-clause-answers : goal.returns-clause-answers
returns-clause-answers g c = answers_by g.C.Records c.args.self.now c.call-answer.new.self c.count.new.self c.call-answer.result _ _ c.call-answer.ensures.grows c.call-answer.ensures.owner c.call-answer.ensures.says c.call-answer.ensures.settles c.count.ensures.same

pub returns-clause-alone : goal.returns-clause-alone
returns-clause-alone g c = meets_alone g.C.Records c.args.self.now c.count.new.self c.call-answer.result _ _ (exact_counted g.C.Records c.args.self.now c.count.new.self _ _ c.call-answer.new.self c.call-answer.result c.call-answer.ensures.exact c.count.ensures.records c.count.ensures.same.1)
