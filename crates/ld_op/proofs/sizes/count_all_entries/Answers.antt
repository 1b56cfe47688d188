use Rattle.std.proofs.Common.{◌≡◌, ◌+◌, ◌-◌, ◌^◌, ◌∙◌, ap, refl, min, [], arith}
use Rattle.std.specs.Map.Iter.{deref_pair}
use Rattle.ld_op.specs.Places.{filled}
use Rattle.ld_op.specs.Room.{there_of}
use Rattle.ld_op.specs.Indexed.{entry_count}
use Rattle.ld_op.proofs.Taken.{counts_on, sum_on, sum_all}
use Rattle.ld_op.proofs.sizes.count_all_entries.Goals as goal

pub logs-preserved : goal.logs-preserved
logs-preserved c = record {
  sum = sum_on c.logs.sum _ _ (entry_count (there_of c.logs.state-iterator)) (entry_count (there_of c.next.new.self)) _ (2 ^ 64 - 1) (counts_on (deref_pair (c.in-Some.field-0-0, c.in-Some.state)) c.logs.state-iterator c.next.new.self c.in-Some.ensures.steps) (c.saturating_add-sum.ensures ∙ ap (λ n. min (c.logs.sum + n) (2 ^ 64 - 1)) c.entries_there.ensures) c.logs.invariant.sum;
  most = omega arith;
}

none : entry_count (there_of []) ≡ 0
unfolding filled
none = refl

pub returns : goal.returns
returns c = sum_all c.logs.sum (entry_count (there_of c.logs.state-iterator)) _ (2 ^ 64 - 1) (ap (λ m. entry_count (there_of m)) c.in-None.ensures.steps.0 ∙ none) c.logs.invariant.most c.logs.invariant.sum
