use Rattle.std.proofs.Common.{refl, arith}
use Rattle.ld_real.proofs.file.FileDiskDisk.write_at.Goals as goal

pub returns-clause-crash : goal.returns-clause-crash
returns-clause-crash g c = λ c' any. (c', tt, record { before = refl; after = refl; no_shorter = omega arith; no_longer = omega arith })
