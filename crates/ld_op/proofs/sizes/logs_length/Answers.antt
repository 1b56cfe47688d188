use Rattle.std.proofs.Common.{◌≡◌, ◌-◌, ◌^◌, ◌∙◌, ap, refl, length, [], arith}
use Rattle.std.specs.Map.Iter.{deref_pair}
use Rattle.ld_op.specs.Places.{filled}
use Rattle.ld_op.proofs.Tables.{logs_of}
use Rattle.ld_op.proofs.Taken.{logs_on, part_on, sum_all}
use Rattle.ld_op.proofs.sizes.logs_length.Goals as goal

pub logs-preserved : goal.logs-preserved
logs-preserved c = record {
  sum = part_on c.logs.sum c.log_length.result _ _ (length (logs_of c.logs.state-iterator)) (length (logs_of c.next.new.self)) _ (2 ^ 64 - 1) (logs_on (deref_pair (c.in-Some.field-0-0, c.in-Some.state)) c.logs.state-iterator c.next.new.self c.in-Some.ensures.steps) c.saturating_add-sum.ensures c.log_length.ensures c.logs.invariant.sum;
  most = omega arith;
}

none : length (logs_of []) ≡ 0
unfolding filled
none = refl

pub returns : goal.returns
returns c = sum_all c.logs.sum (length (logs_of c.logs.state-iterator)) _ (2 ^ 64 - 1) (ap (λ m. length (logs_of m)) c.in-None.ensures.steps.0 ∙ none) c.logs.invariant.most c.logs.invariant.sum
