use Rattle.ld_layout.proofs.Free.{is_free, is_least}
use Rattle.ld_layout.proofs.areas.least_places_are_free.Goals as goal

pub returns-clause-free : goal.returns-clause-free
returns-clause-free c size at areas rise = is_free size at 0 areas rise

pub returns-clause-least : goal.returns-clause-least
returns-clause-least c size at place areas from free = is_least size at place areas from free
