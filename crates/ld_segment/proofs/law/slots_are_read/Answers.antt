use Rattle.ld_segment.proofs.CurrentSlots.{told}
use Rattle.ld_segment.proofs.law.slots_are_read.Goals as goal

pub returns : goal.returns
returns c this_at other_at number place this other bytes tells here there fits_1 fits_2 fits_3 fits_4 fits_5 = told this_at other_at number place this other bytes tells here there fits_1 fits_2 fits_3 fits_4 fits_5
