use Rattle.std.proofs.Common.{subst}
use Rattle.ld_digest.specs.declared.added.Added.{Added}
use Rattle.ld_digest.specs.Added.{IsAdded}
use Rattle.ld_recovery.proofs.Digesting.{ignored}
use Rattle.ld_recovery.proofs.stage.add_page.Goals as goal

pub returns-in-Ignored-clause-stage : goal.returns-in-Ignored-clause-stage
returns-in-Ignored-clause-stage c =
    let p = c.args.page.now in
    ignored c.args.digest c.add.new.self c.args.node p.from p.upto p.trim p.lng p.entries.now
    (subst (λ (a : Added). IsAdded a c.args.node p.from c.args.digest.told c.add.new.self.told) c.in-Ignored.is c.in_ok-add.ensures.added) c.in_ok-add.ensures.told
