use Rattle.ld_rows.proofs.Confirming.{lost_ends}
use Rattle.ld_rows.proofs.sanity.a_loss_is_confirmed.Goals as goal

pub returns : goal.returns
returns c = lost_ends
