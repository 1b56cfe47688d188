use Rattle.ld_segment.proofs.Choices.{one_counts, new_counts, same_elsewhere, same_switched}
use Rattle.ld_segment.proofs.law.slots_tell_the_segment.Goals as goal

pub returns-clause-crash : goal.returns-clause-crash
returns-clause-crash c this other number next place at w old left tells is torn = one_counts this other number next place at w old tells is left torn

pub returns-clause-made : goal.returns-clause-made
returns-clause-made c this other number next place at w old tells is = new_counts this other number next place at w old tells is

pub returns-clause-elsewhere : goal.returns-clause-elsewhere
returns-clause-elsewhere c this other number next place at w old left k n tells is away torn = same_elsewhere this other number next place at w old tells is k n away left torn

pub returns-clause-elsewhere_made : goal.returns-clause-elsewhere_made
returns-clause-elsewhere_made c this other number next place at w old k n tells is away = same_switched this other number next place at w old tells is k n away
