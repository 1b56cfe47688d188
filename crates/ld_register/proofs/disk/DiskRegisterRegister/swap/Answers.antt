use Rattle.std.proofs.Common.{◌≡◌, subst, inr, arith, ℕ, Bool, List, Option}
use Rattle.ld_disk.specs.Plain.{Plain, Call}
use Rattle.ld_register.specs.Calls.{swapped, after_swap}
use Rattle.ld_register.specs.Held.{Meets, granting}
use Rattle.ld_register.specs.Writing.{Writes}
use Rattle.ld_register.proofs.Committing.{err_of}
use Rattle.ld_register.proofs.Meeting.{meets_as, meets_due, meets_undone}
use Rattle.ld_register.proofs.Writing.{failed_or, undone_or, writes_as, writes_granted, writes_refused, writes_idle, writes_due, one_swap, no_swap_calls}
use Rattle.ld_register.proofs.disk.DiskRegisterRegister.swap.Goals as goal

writes_granted_as : {loaded : Bool} {calls : List Call} {p : Plain} {left : Option Plain} (m n : ℕ) → m ≡ n → Writes loaded calls p (granting m) left → Writes loaded calls p (granting n) left
writes_granted_as {loaded = loaded} {calls = calls} {p = p} {left = left} m n e w = subst (λ n. Writes loaded calls p (granting n) left) e w

pub returns-in_err-count-clause-meets : goal.returns-in_err-count-clause-meets
returns-in_err-count-clause-meets g c = meets_as _ _ _ _ _ _ (err_of c.from_residual.result c.in_err-count.field-0.0 c.from_residual.ensures.1) c.in_err-count.ensures.refused

pub returns-then-count-eq0-clause-meets : goal.returns-then-count-eq0-clause-meets
returns-then-count-eq0-clause-meets g c = subst (λ n. Meets c.args.self.now c.check_swap.new.self (granting n) (λ h. swapped h c.args.log c.args.upto c.args.member c.args.spare) (λ h. after_swap h c.args.log c.args.upto c.args.member c.args.spare)) c.if-count-eq0.true (c.in_ok-count.ensures.none c.if-count-eq0.true)

pub commit-requires-clause-loaded : goal.commit-requires-clause-loaded
commit-requires-clause-loaded g c = (c.in_ok-count.ensures.due (let z = c.if-count-eq0.false in omega arith)).ready.loaded

pub commit-requires-clause-is : goal.commit-requires-clause-is
commit-requires-clause-is g c = (c.in_ok-count.ensures.due (let z = c.if-count-eq0.false in omega arith)).is

pub commit-requires-clause-next : goal.commit-requires-clause-next
commit-requires-clause-next g c = (c.in_ok-count.ensures.due (let z = c.if-count-eq0.false in omega arith)).next

pub returns-in_err-commit-clause-meets : goal.returns-in_err-commit-clause-meets
returns-in_err-commit-clause-meets g c = meets_undone g.met.D.Disk.counts_now g.met.D.Disk.reads_an_image c.args.self.now c.check_swap.new.self c.commit.new.self _ _ c.in_err-commit.field-0.0 c.from_residual-in_err-commit.result _ _
    (err_of c.from_residual-in_err-commit.result c.in_err-commit.field-0.0 c.from_residual-in_err-commit.ensures.1) (c.in_ok-count.ensures.due (let z = c.if-count-eq0.false in omega arith)) c.in_err-commit.ensures.commits c.in_err-commit.ensures.refused

pub returns-clause-meets : goal.returns-clause-meets
returns-clause-meets g c = meets_due g.met.D.Disk.counts_now g.met.D.Disk.reads_an_image c.args.self.now c.check_swap.new.self c.commit.new.self _ _ _ _ _ (c.in_ok-count.ensures.due (let z = c.if-count-eq0.false in omega arith)) c.in_ok-commit.ensures.commits c.in_ok-commit.ensures.made

pub returns-in_err-count-clause-exact_calls : goal.returns-in_err-count-clause-exact_calls
returns-in_err-count-clause-exact_calls g c p is fine = writes_refused _ _ _ p _ _ (err_of c.from_residual.result c.in_err-count.field-0.0 c.from_residual.ensures.1) (c.in_err-count.ensures.exact_calls p is fine)

pub returns-then-count-eq0-clause-exact_calls : goal.returns-then-count-eq0-clause-exact_calls
returns-then-count-eq0-clause-exact_calls g c p is fine = writes_idle _ _ _ p _ (λ h k. no_swap_calls h c.args.log c.args.upto c.args.member c.args.spare (c.in_ok-count.ensures.nowhere c.if-count-eq0.true h k)) (writes_granted_as c.in_ok-count.count 0 c.if-count-eq0.true (c.in_ok-count.ensures.exact_calls p is fine))

pub returns-in_err-commit-clause-exact_calls : goal.returns-in_err-commit-clause-exact_calls
returns-in_err-commit-clause-exact_calls g c p is fine = writes_due g.met.D.Disk.plain_is_seen c.args.self.now c.check_swap.new.self c.commit.new.self _ _ _ _ _ p _ (c.in_ok-count.ensures.due (let z = c.if-count-eq0.false in omega arith)) (λ h n. one_swap _ _ _ _ h n) is (c.in_ok-count.ensures.exact_calls p is fine)
    (λ q mid. writes_as _ _ q _ c.in_err-commit.field-0.0 _ (err_of c.from_residual-in_err-commit.result c.in_err-commit.field-0.0 c.from_residual-in_err-commit.ensures.1) (c.in_err-commit.ensures.exact_calls q mid))

pub returns-clause-exact_calls : goal.returns-clause-exact_calls
returns-clause-exact_calls g c p is fine = writes_due g.met.D.Disk.plain_is_seen c.args.self.now c.check_swap.new.self c.commit.new.self _ _ _ _ _ p _ (c.in_ok-count.ensures.due (let z = c.if-count-eq0.false in omega arith)) (λ h n. one_swap _ _ _ _ h n) is (c.in_ok-count.ensures.exact_calls p is fine)
    (λ q mid. writes_granted _ q tt _ _ (c.in_ok-commit.ensures.exact_calls q mid))

pub returns-in_err-count-clause-stays : goal.returns-in_err-count-clause-stays
returns-in_err-count-clause-stays g c l = failed_or c.from_residual.result c.in_err-count.field-0.0 _ (err_of c.from_residual.result c.in_err-count.field-0.0 c.from_residual.ensures.1) (c.in_err-count.ensures.stays l)

pub returns-in_err-commit-clause-stays : goal.returns-in_err-commit-clause-stays
returns-in_err-commit-clause-stays g c l = failed_or c.from_residual-in_err-commit.result c.in_err-commit.field-0.0 _ (err_of c.from_residual-in_err-commit.result c.in_err-commit.field-0.0 c.from_residual-in_err-commit.ensures.1) (undone_or c.in_err-commit.ensures.refused)

pub returns-clause-stays : goal.returns-clause-stays
returns-clause-stays g c l = inr c.in_ok-commit.ensures.made.loaded
