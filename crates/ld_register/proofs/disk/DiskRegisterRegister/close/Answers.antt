use Rattle.std.proofs.Common.{subst, refl, inr}
use Rattle.std.specs.Result.{IsErrOf}
use Rattle.ld_register.specs.declared.fault.RegisterFault.TheVariants as faults
use Rattle.ld_register.proofs.Committing.{err_of}
use Rattle.ld_register.proofs.Meeting.{meets_as, meets_due, meets_undone}
use Rattle.ld_register.proofs.Writing.{failed_or, undone_or, writes_as, writes_granted, writes_refused, writes_due}
use Rattle.ld_register.proofs.disk.DiskRegisterRegister.close.Goals as goal

pub returns-in_err-next-clause-meets : goal.returns-in_err-next-clause-meets
returns-in_err-next-clause-meets g c = meets_as _ _ _ _ _ _ (err_of c.from_residual.result c.in_err-next.field-0.0 c.from_residual.ensures.1) c.in_err-next.ensures.refused

pub commit-requires-clause-loaded : goal.commit-requires-clause-loaded
commit-requires-clause-loaded g c = c.in_ok-next.ensures.due.ready.loaded

pub commit-requires-clause-is : goal.commit-requires-clause-is
commit-requires-clause-is g c = c.in_ok-next.ensures.due.is

pub commit-requires-clause-next : goal.commit-requires-clause-next
commit-requires-clause-next g c = c.in_ok-next.ensures.due.next

pub returns-in_err-commit-clause-meets : goal.returns-in_err-commit-clause-meets
returns-in_err-commit-clause-meets g c = meets_undone g.met.D.Disk.counts_now g.met.D.Disk.reads_an_image c.args.self.now c.check_close.new.self c.commit.new.self _ _ c.in_err-commit.field-0.0 c.from_residual-in_err-commit.result _ _
    (err_of c.from_residual-in_err-commit.result c.in_err-commit.field-0.0 c.from_residual-in_err-commit.ensures.1) c.in_ok-next.ensures.due c.in_err-commit.ensures.commits c.in_err-commit.ensures.refused

pub returns-clause-meets : goal.returns-clause-meets
returns-clause-meets g c = meets_due g.met.D.Disk.counts_now g.met.D.Disk.reads_an_image c.args.self.now c.check_close.new.self c.commit.new.self _ _ _ _ _ c.in_ok-next.ensures.due c.in_ok-commit.ensures.commits c.in_ok-commit.ensures.made

pub returns-in_err-next-clause-bounds : goal.returns-in_err-next-clause-bounds
returns-in_err-next-clause-bounds g c lce next e = c.in_err-next.ensures.bounds lce next (subst (λ r. IsErrOf r (faults.Behind lce next)) (err_of c.from_residual.result c.in_err-next.field-0.0 c.from_residual.ensures.1) e)

pub returns-in_err-next-clause-exact_calls : goal.returns-in_err-next-clause-exact_calls
returns-in_err-next-clause-exact_calls g c p is fine = writes_refused _ _ _ p _ _ (err_of c.from_residual.result c.in_err-next.field-0.0 c.from_residual.ensures.1) (c.in_err-next.ensures.exact_calls p is fine)

pub returns-in_err-commit-clause-exact_calls : goal.returns-in_err-commit-clause-exact_calls
returns-in_err-commit-clause-exact_calls g c p is fine = writes_due g.met.D.Disk.plain_is_seen c.args.self.now c.check_close.new.self c.commit.new.self _ _ _ _ _ p _ c.in_ok-next.ensures.due (λ h n. refl) is (c.in_ok-next.ensures.exact_calls p is fine)
    (λ q mid. writes_as _ _ q _ c.in_err-commit.field-0.0 _ (err_of c.from_residual-in_err-commit.result c.in_err-commit.field-0.0 c.from_residual-in_err-commit.ensures.1) (c.in_err-commit.ensures.exact_calls q mid))

pub returns-clause-exact_calls : goal.returns-clause-exact_calls
returns-clause-exact_calls g c p is fine = writes_due g.met.D.Disk.plain_is_seen c.args.self.now c.check_close.new.self c.commit.new.self _ _ _ _ _ p _ c.in_ok-next.ensures.due (λ h n. refl) is (c.in_ok-next.ensures.exact_calls p is fine)
    (λ q mid. writes_granted _ q tt _ _ (c.in_ok-commit.ensures.exact_calls q mid))

pub returns-in_err-next-clause-stays : goal.returns-in_err-next-clause-stays
returns-in_err-next-clause-stays g c l = failed_or c.from_residual.result c.in_err-next.field-0.0 _ (err_of c.from_residual.result c.in_err-next.field-0.0 c.from_residual.ensures.1) (c.in_err-next.ensures.stays l)

pub returns-in_err-commit-clause-stays : goal.returns-in_err-commit-clause-stays
returns-in_err-commit-clause-stays g c l = failed_or c.from_residual-in_err-commit.result c.in_err-commit.field-0.0 _ (err_of c.from_residual-in_err-commit.result c.in_err-commit.field-0.0 c.from_residual-in_err-commit.ensures.1) (undone_or c.in_err-commit.ensures.refused)

pub returns-clause-stays : goal.returns-clause-stays
returns-clause-stays g c l = inr c.in_ok-commit.ensures.made.loaded

pub returns-in_err-next-clause-overtaken : goal.returns-in_err-next-clause-overtaken
returns-in_err-next-clause-overtaken g c kept e = c.in_err-next.ensures.overtaken kept (subst (λ r. IsErrOf r (faults.Overtaken kept)) (err_of c.from_residual.result c.in_err-next.field-0.0 c.from_residual.ensures.1) e)
