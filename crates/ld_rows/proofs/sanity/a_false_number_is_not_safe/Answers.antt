use Rattle.ld_rows.proofs.ByHand.{one_number_twice_unsafe, two_numbers_unsafe, other_epoch_unsafe, acked_for_nothing_unsafe, released_for_nothing_unsafe, released_past_unsafe, released_by_nobody_unsafe}
use Rattle.ld_rows.proofs.sanity.a_false_number_is_not_safe.Goals as goal

pub returns-clause-one_number_twice : goal.returns-clause-one_number_twice
returns-clause-one_number_twice c = one_number_twice_unsafe

pub returns-clause-two_numbers : goal.returns-clause-two_numbers
returns-clause-two_numbers c = two_numbers_unsafe

pub returns-clause-other_epoch : goal.returns-clause-other_epoch
returns-clause-other_epoch c = other_epoch_unsafe

pub returns-clause-acked_for_nothing : goal.returns-clause-acked_for_nothing
returns-clause-acked_for_nothing c = acked_for_nothing_unsafe

pub returns-clause-released_for_nothing : goal.returns-clause-released_for_nothing
returns-clause-released_for_nothing c = released_for_nothing_unsafe

pub returns-clause-released_past : goal.returns-clause-released_past
returns-clause-released_past c = released_past_unsafe

pub returns-clause-released_by_nobody : goal.returns-clause-released_by_nobody
returns-clause-released_by_nobody c = released_by_nobody_unsafe
