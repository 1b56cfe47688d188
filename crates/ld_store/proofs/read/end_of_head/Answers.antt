use Rattle.std.proofs.Common.{◌≡◌, Err, Ok, ap, sym}
use Rattle.ld_store.specs.Faults.{passed_on}
use Rattle.ld_store.specs.declared.fault.StoreFault.TheVariants as stores
use Rattle.ld_store.proofs.Faults.{of_damaged, err_is, same_place}
use Rattle.ld_store.proofs.Behind.{error_of, cut_open, begins_open}
use Rattle.ld_store.proofs.read.end_of_head.Goals as goal

pub returns-in_err-read_record-clause-damaged : goal.returns-in_err-read_record-clause-damaged
returns-in_err-read_record-clause-damaged g c place is front rest parted long =
    let error = ap Err (of_damaged c.in_err-read_record.field-0.0 place (sym (err_is c.from_residual.result (stores.Damaged place) (λ e. e ≡ passed_on c.in_err-read_record.field-0.0) c.from_residual.ensures.1 is))) in
    let cut = c.in_err-read_record.ensures.damaged place error front rest parted long in
    (cut.0, cut_open rest cut.1)

pub returns-clause-damaged : goal.returns-clause-damaged
returns-clause-damaged g c place is front rest parted long =
    let begins = (c.in_ok-read_record.ensures.body c.in-Some.field-0 (ap Ok c.in-Some.is) front rest parted long).0 in
    (sym (same_place c.args.at place (error_of (stores.Damaged c.args.at) (stores.Damaged place) is)), begins_open c.read_record.new.body.items rest begins)
