use Rattle.ld_segment.proofs.ReadLater.{read_as, read_kept, not_refused}
use Rattle.ld_segment.proofs.later.segments_are_read.Goals as goal

pub returns-clause-read : goal.returns-clause-read
returns-clause-read c opening version head z g index bytes read is number place there = read_as opening version head z g index bytes is number place read there

pub returns-clause-slots : goal.returns-clause-slots
returns-clause-slots c opening version head z g index bytes read is number place there = read_kept opening version head z g index bytes is number place read there

pub returns-clause-none : goal.returns-clause-none
returns-clause-none c opening version head place z g index bytes is number fits behind damaged = not_refused opening version head z g index bytes is number fits place behind damaged
