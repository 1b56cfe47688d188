use Rattle.ld_segment.proofs.OneLayout.{one_way}
use Rattle.ld_segment.proofs.lies.bytes_lie_in_one_way.Goals as goal

pub returns : goal.returns
returns c v w y x z q bytes here sound_here there sound_there = one_way v w y x z q bytes here sound_here there sound_there
