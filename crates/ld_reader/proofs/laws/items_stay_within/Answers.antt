use Rattle.std.proofs.Common.{arith}
use Rattle.ld_reader.proofs.Tiling.{stand_within}
use Rattle.ld_reader.proofs.laws.items_stay_within.Goals as goal

pub returns : goal.returns
returns c from to = λ until items t l. stand_within from from to until items (omega arith) l t
