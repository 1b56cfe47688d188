use Rattle.std.proofs.Common.{ap, ◌∙◌}
use Rattle.ld_serve.specs.Group.{waiting_in}
use Rattle.ld_serve.proofs.Groups.{waiting_more}
use Rattle.ld_serve.proofs.group.Group.push.Goals as goal

pub returns-clause-ok : goal.returns-clause-ok
returns-clause-ok c = ap waiting_in c.in_ok-push.ensures.items ∙ waiting_more c.args.self.now.answers.items _
