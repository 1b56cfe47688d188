use Rattle.std.proofs.Common.{◌≡◌, ◌+◌, length, arith, rules}
use Rattle.std.specs.Map.Iter.{deref_pair}
use Rattle.ld_op.specs.Places.{filled}
use Rattle.ld_op.proofs.Tables.{count_on, count_all, filled_most}
use Rattle.ld_op.proofs.sizes.count_lngs.Goals as goal

next : (c : goal.After-from-count) → length (filled c.lngs.place-iterator) ≡ c.from-count.result + length (filled c.next.new.self)
next c = count_on (deref_pair (c.in-Some.field-0-0, c.in-Some.place)) c.lngs.place-iterator c.next.new.self c.from-count.result c.in-Some.ensures.steps (search rules)

pub overflow_add-count : goal.overflow_add-count
overflow_add-count c = let i = c.lngs.invariant in let n = next c in let m = filled_most c.args.places.now.entries in let s = c.len.ensures.small in omega arith

pub lngs-preserved : goal.lngs-preserved
lngs-preserved c = let i = c.lngs.invariant in let n = next c in omega arith

pub returns : goal.returns
returns c = count_all c.lngs.place-iterator c.lngs.count _ c.in-None.ensures.steps.0 c.lngs.invariant
