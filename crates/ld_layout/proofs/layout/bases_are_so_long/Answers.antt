use Rattle.ld_layout.proofs.Lengths.{base_long}
use Rattle.ld_layout.proofs.layout.bases_are_so_long.Goals as goal

pub returns : goal.returns
returns c kind p areas = base_long kind p areas
