use Rattle.std.proofs.Common.{◌≡◌, ◌+◌, length, arith, rules}
use Rattle.std.specs.Map.Iter.{deref_pair}
use Rattle.ld_op.specs.Room.{there_of}
use Rattle.ld_op.proofs.Tables.{logs_on, logs_all, there_most}
use Rattle.ld_op.proofs.sizes.count_logs.Goals as goal

next : (c : goal.After-from-count) → length (there_of c.logs.state-iterator) ≡ c.from-count.result + length (there_of c.next.new.self)
next c = logs_on (deref_pair (c.in-Some.field-0-0, c.in-Some.state)) c.logs.state-iterator c.next.new.self c.from-count.result c.in-Some.ensures.steps (search rules)

pub overflow_add-count : goal.overflow_add-count
overflow_add-count c = let i = c.logs.invariant in let n = next c in let m = there_most c.args.places.now.entries in let s = c.len.ensures.small in omega arith

pub logs-preserved : goal.logs-preserved
logs-preserved c = let i = c.logs.invariant in let n = next c in omega arith

pub returns : goal.returns
returns c = logs_all c.logs.state-iterator c.logs.count _ c.in-None.ensures.steps.0 c.logs.invariant
