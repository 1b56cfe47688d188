use Rattle.ld_reader.proofs.Tiling.{calls_tile}
use Rattle.ld_reader.proofs.laws.items_join.Goals as goal

pub returns : goal.returns
returns c from to = λ calls t. calls_tile from to calls t
