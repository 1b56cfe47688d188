-- Formats rise.
use Rattle.ld_op.specs.Bounds.{IsOp}
use Rattle.ld_op.specs.Rising.{IsRising}
use Rattle.ld_op.specs.declared.op.Op.{Op}
use Rattle.ld_op.specs.declared.op.Op.TheVariants as ops
use Rattle.ld_segment.proofs.Listed.{epochs_rise}

pub op_rises : (o : Op) → IsOp o → IsRising o
op_rises (ops.Format generation epochs) is = epochs_rise 1 epochs is.2
op_rises (ops.Accept l lng e) is = tt
op_rises (ops.Seal l b) is = tt
op_rises (ops.Clean l epoch y) is = tt
op_rises (ops.Trim l t) is = tt
op_rises (ops.Refill l es) is = tt
op_rises (ops.Refilled l) is = tt
