use Rattle.std.proofs.Common.{inr}
use Rattle.ld_register.proofs.Committing.{err_of}
use Rattle.ld_register.proofs.Meeting.{meets_as, meets_due, meets_undone}
use Rattle.ld_register.proofs.Writing.{failed_or, undone_or, writes_as, writes_granted, writes_refused, writes_due, one_drawing}
use Rattle.ld_register.proofs.disk.DiskRegisterRegister.draw.Goals as goal

pub returns-in_err-handed-clause-meets : goal.returns-in_err-handed-clause-meets
returns-in_err-handed-clause-meets g c = meets_as _ _ _ _ _ _ (err_of c.from_residual.result c.in_err-handed.field-0.0 c.from_residual.ensures.1) c.in_err-handed.ensures.refused

pub commit-requires-clause-loaded : goal.commit-requires-clause-loaded
commit-requires-clause-loaded g c = c.in_ok-handed.ensures.due.ready.loaded

pub commit-requires-clause-is : goal.commit-requires-clause-is
commit-requires-clause-is g c = c.in_ok-handed.ensures.due.is

pub commit-requires-clause-next : goal.commit-requires-clause-next
commit-requires-clause-next g c = c.in_ok-handed.ensures.due.next

pub returns-in_err-commit-clause-meets : goal.returns-in_err-commit-clause-meets
returns-in_err-commit-clause-meets g c = meets_undone g.met.D.Disk.counts_now g.met.D.Disk.reads_an_image c.args.self.now c.check_draw.new.self c.commit.new.self _ _ c.in_err-commit.field-0.0 c.from_residual-in_err-commit.result _ _
    (err_of c.from_residual-in_err-commit.result c.in_err-commit.field-0.0 c.from_residual-in_err-commit.ensures.1) c.in_ok-handed.ensures.due c.in_err-commit.ensures.commits c.in_err-commit.ensures.refused

pub returns-clause-meets : goal.returns-clause-meets
returns-clause-meets g c = meets_due g.met.D.Disk.counts_now g.met.D.Disk.reads_an_image c.args.self.now c.check_draw.new.self c.commit.new.self _ _ _ _ _ c.in_ok-handed.ensures.due c.in_ok-commit.ensures.commits c.in_ok-commit.ensures.made

pub returns-in_err-handed-clause-exact_calls : goal.returns-in_err-handed-clause-exact_calls
returns-in_err-handed-clause-exact_calls g c p is fine = writes_refused _ _ _ p _ _ (err_of c.from_residual.result c.in_err-handed.field-0.0 c.from_residual.ensures.1) (c.in_err-handed.ensures.exact_calls p is fine)

pub returns-in_err-commit-clause-exact_calls : goal.returns-in_err-commit-clause-exact_calls
returns-in_err-commit-clause-exact_calls g c p is fine = writes_due g.met.D.Disk.plain_is_seen c.args.self.now c.check_draw.new.self c.commit.new.self _ _ _ _ _ p _ c.in_ok-handed.ensures.due (λ h n. one_drawing _ _ h n) is (c.in_ok-handed.ensures.exact_calls p is fine)
    (λ q mid. writes_as _ _ q _ c.in_err-commit.field-0.0 _ (err_of c.from_residual-in_err-commit.result c.in_err-commit.field-0.0 c.from_residual-in_err-commit.ensures.1) (c.in_err-commit.ensures.exact_calls q mid))

pub returns-clause-exact_calls : goal.returns-clause-exact_calls
returns-clause-exact_calls g c p is fine = writes_due g.met.D.Disk.plain_is_seen c.args.self.now c.check_draw.new.self c.commit.new.self _ _ _ _ _ p _ c.in_ok-handed.ensures.due (λ h n. one_drawing _ _ h n) is (c.in_ok-handed.ensures.exact_calls p is fine)
    (λ q mid. writes_granted _ q tt _ _ (c.in_ok-commit.ensures.exact_calls q mid))

pub returns-in_err-handed-clause-stays : goal.returns-in_err-handed-clause-stays
returns-in_err-handed-clause-stays g c l = failed_or c.from_residual.result c.in_err-handed.field-0.0 _ (err_of c.from_residual.result c.in_err-handed.field-0.0 c.from_residual.ensures.1) (c.in_err-handed.ensures.stays l)

pub returns-in_err-commit-clause-stays : goal.returns-in_err-commit-clause-stays
returns-in_err-commit-clause-stays g c l = failed_or c.from_residual-in_err-commit.result c.in_err-commit.field-0.0 _ (err_of c.from_residual-in_err-commit.result c.in_err-commit.field-0.0 c.from_residual-in_err-commit.ensures.1) (undone_or c.in_err-commit.ensures.refused)

pub returns-clause-stays : goal.returns-clause-stays
returns-clause-stays g c l = inr c.in_ok-commit.ensures.made.loaded
