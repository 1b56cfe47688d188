use Rattle.ld_register.specs.declared.change.Change.TheVariants as changes
use Rattle.ld_register.proofs.Committing.{on_err}
use Rattle.ld_register.proofs.Arming.{not_made, is_done, attempt_checked, attempt_made}
use Rattle.ld_register.proofs.faulty.FaultyRegister.attempt_close.Goals as goal

pub returns-then-is_prevented-clause-granted : goal.returns-then-is_prevented-clause-granted
returns-then-is_prevented-clause-granted g c = attempt_checked g.met.D.Disk.counts_now g.met.D.Disk.reads_an_image _ _ (λ v. changes.Close c.args.log c.args.epoch c.args.summary.now) _ _ _ _ (not_made _ _ c.is_prevented.ensures c.if-is_prevented.true) c.check_close.ensures.due

pub returns-then-is_prevented-clause-refused : goal.returns-then-is_prevented-clause-refused
returns-then-is_prevented-clause-refused g c = c.check_close.ensures.refused

pub returns-clause-granted : goal.returns-clause-granted
returns-clause-granted g c = attempt_made _ _ _ _ _ _ (is_done _ _ c.is_prevented.ensures c.if-is_prevented.false) c.close.ensures.meets

pub returns-clause-refused : goal.returns-clause-refused
returns-clause-refused g c = on_err _ _ c.close.ensures.meets
