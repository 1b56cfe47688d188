use Rattle.ld_segment.proofs.Rows.{row_stays}
use Rattle.ld_segment.proofs.Ranges.{stands_on}
use Rattle.ld_segment.proofs.law.segments_stay.Goals as goal

pub returns-clause-rows : goal.returns-clause-rows
returns-clause-rows c from to at bodies old new stays apart journal = row_stays from to at bodies old new stays apart journal

pub returns-clause-bytes : goal.returns-clause-bytes
returns-clause-bytes c from to at piece old new stays apart stands = stands_on from to at piece old new stays apart stands
