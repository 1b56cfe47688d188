use Rattle.ld_segment.proofs.Rows.{head_there_or_not}
use Rattle.ld_segment.proofs.law.heads_are_there_or_not.Goals as goal

pub returns : goal.returns
returns c bodies head slots_at slots old left short journal far torn = head_there_or_not bodies head slots_at slots old left short journal far torn
