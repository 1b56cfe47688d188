use Rattle.ld_segment.proofs.Before.{before}
use Rattle.ld_segment.proofs.lies.journals_stand_as_before.Goals as goal

pub returns : goal.returns
returns c vs bytes is = before vs bytes is
