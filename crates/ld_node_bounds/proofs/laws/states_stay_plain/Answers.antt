use Rattle.std.proofs.Common.{arith}
use Rattle.ld_node_bounds.specs.States.{last_carried}
use Rattle.ld_node_bounds.proofs.Ops.{unformatted_is, apply_is, op_carried, summaries_are}
use Rattle.ld_node_bounds.proofs.laws.states_stay_plain.Goals as goal

pub returns-clause-start : goal.returns-clause-start
returns-clause-start c = λ most. unformatted_is most

pub returns-clause-op : goal.returns-clause-op
returns-clause-op c = λ most p o enough P k. apply_is most p o enough P k

pub returns-clause-carried : goal.returns-clause-carried
returns-clause-carried c = λ p o P i. apply_is last_carried p o (omega arith) P (op_carried o i)

pub returns-clause-summaries : goal.returns-clause-summaries
returns-clause-summaries c = λ most p l e y P h. summaries_are most p l e y P h
