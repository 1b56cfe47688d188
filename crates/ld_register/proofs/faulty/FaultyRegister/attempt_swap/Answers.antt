use Rattle.ld_register.specs.declared.change.Change.TheVariants as changes
use Rattle.ld_register.proofs.Committing.{on_err}
use Rattle.ld_register.proofs.Arming.{not_made, is_done, attempt_checked_some, attempt_made_some, if_ok}
use Rattle.ld_register.proofs.faulty.FaultyRegister.attempt_swap.Goals as goal

pub returns-then-is_prevented-clause-granted : goal.returns-then-is_prevented-clause-granted
returns-then-is_prevented-clause-granted g c = attempt_checked_some g.met.D.Disk.counts_now g.met.D.Disk.reads_an_image _ _ (changes.Swap c.args.log c.args.upto c.args.member c.args.spare) _ _ _ _ _ (not_made _ _ c.is_prevented.ensures c.if-is_prevented.true) c.check_swap.ensures.due

pub returns-clause-granted : goal.returns-clause-granted
returns-clause-granted g c = attempt_made_some _ _ _ _ _ _ _ (is_done _ _ c.is_prevented.ensures c.if-is_prevented.false) c.swap.ensures.meets

pub returns-clause-none : goal.returns-clause-none
returns-clause-none g c = if_ok _ _ _ c.swap.ensures.meets

pub returns-clause-refused : goal.returns-clause-refused
returns-clause-refused g c = on_err _ _ c.swap.ensures.meets
