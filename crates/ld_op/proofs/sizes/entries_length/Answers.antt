use Rattle.std.proofs.Common.{◌≡◌, ◌+◌, ◌-◌, ◌^◌, ◌∙◌, ap, refl, length, min, [], arith}
use Rattle.std.specs.Map.Iter.{deref_pair}
use Rattle.ld_op.specs.Places.{filled}
use Rattle.ld_op.proofs.Tables.{entries_of}
use Rattle.ld_op.proofs.Taken.{entries_on, sum_on, sum_all}
use Rattle.ld_op.proofs.sizes.entries_length.Goals as goal

pub entries-preserved : goal.entries-preserved
entries-preserved c = record {
  sum = sum_on c.entries.sum _ _ (length (entries_of c.entries.place-iterator)) (length (entries_of c.next.new.self)) _ (2 ^ 64 - 1) (entries_on (deref_pair (c.in-Some.field-0-0, c.in-Some.place)) c.entries.place-iterator c.next.new.self c.in-Some.ensures.steps) (c.saturating_add-sum.ensures ∙ ap (λ n. min (c.entries.sum + n) (2 ^ 64 - 1)) c.entry_length.ensures) c.entries.invariant.sum;
  most = omega arith;
}

none : length (entries_of []) ≡ 0
unfolding filled
none = refl

pub returns : goal.returns
returns c = sum_all c.entries.sum (length (entries_of c.entries.place-iterator)) _ (2 ^ 64 - 1) (ap (λ m. length (entries_of m)) c.in-None.ensures.steps.0 ∙ none) c.entries.invariant.most c.entries.invariant.sum
