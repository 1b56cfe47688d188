use Rattle.ld_layout.proofs.Bases.{base_judged}
use Rattle.ld_layout.proofs.base.bases_are_judged.Goals as goal

pub returns : goal.returns
returns c kind p areas f k i a = base_judged kind p areas f k i a
