use Rattle.ld_mend.proofs.Mended.{not_lost}
use Rattle.ld_mend.proofs.laws.mended_is_not_lost.Goals as goal

pub returns : goal.returns
returns c = not_lost
