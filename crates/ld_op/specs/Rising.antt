-- Formats whose logs rise.
use Rattle.ld_table.specs.Table.{Ordered}
use Rattle.ld_op.specs.declared.op.Op.{Op}
use Rattle.ld_op.specs.declared.op.Op.TheVariants as ops

-- the logs of a format rise strictly
abbrev pub IsRising : Op → Type 0
IsRising (ops.Format generation epochs) = Ordered epochs
IsRising _ = Unit {0}
