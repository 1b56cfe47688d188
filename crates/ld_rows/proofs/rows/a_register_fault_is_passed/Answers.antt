use Rattle.ld_rows.proofs.Runs.{register_fault_is}
use Rattle.ld_rows.proofs.rows.a_register_fault_is_passed.Goals as goal

pub returns : goal.returns
returns c = register_fault_is
