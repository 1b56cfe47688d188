use Rattle.ld_segment.proofs.OneState.{one_state}
use Rattle.ld_segment.proofs.lies.bytes_stand_for_one_state.Goals as goal

pub returns : goal.returns
returns c p q bytes a b = one_state p q bytes a b
