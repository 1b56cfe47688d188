use Rattle.std.proofs.Common.{None, Some}
use Rattle.ld_segment.proofs.Planning.{row_calls, row_torn, row_is_made, stay_is, switch_is, op_count_is, op_fits}
use Rattle.ld_segment.proofs.lies.plans_are_rows.Goals as goal

pub returns-clause-calls : goal.returns-clause-calls
returns-clause-calls c kind y z body = row_calls kind y z body

pub returns-clause-torn : goal.returns-clause-torn
returns-clause-torn c kind y z body b after torn = row_torn kind y z body b after torn

pub returns-clause-made : goal.returns-clause-made
returns-clause-made c kind y z body b = row_is_made kind y z body b

pub returns-clause-count : goal.returns-clause-count
returns-clause-count c y z o = op_count_is y z o

pub returns-clause-fits : goal.returns-clause-fits
returns-clause-fits c y z o b lies sound may = op_fits y z b o lies sound may

pub returns-clause-stays : goal.returns-clause-stays
returns-clause-stays c kind y z body goes = stay_is kind y z body goes

pub returns-clause-first : goal.returns-clause-first
returns-clause-first c kind y z body is e = switch_is kind y z body None is e

pub returns-clause-later : goal.returns-clause-later
returns-clause-later c kind y z body s is e = switch_is kind y z body (Some s) is e
