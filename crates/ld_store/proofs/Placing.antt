-- Records with the places of their payloads hold what a journal's body can carry too.
use Rattle.std.proofs.Common.{◌≡◌, ◌+◌, ℕ, sym, refl, subst, arith}
use Rattle.ld_op.specs.declared.op.Op.{Op}
use Rattle.ld_op.specs.declared.op.Op.TheVariants as ops
use Rattle.ld_op.specs.declared.record.Record.{Record}
use Rattle.ld_op.specs.declared.record.Record.TheVariants.{Now, Before, Mark}
use Rattle.ld_op.specs.Plain.{op_length}
use Rattle.ld_op.specs.Records.{older_length}
use Rattle.ld_op.specs.Bounds.{IsOp, IsOlder, IsRecord}
use Rattle.ld_segment.specs.Ops.{placed_record}
use Rattle.ld_segment.proofs.Listed.{placed_is}
use Rattle.ld_segment.proofs.OneRead.{older_placed}

pub record_placed : (at : ℕ) (v : Record) → IsRecord v → IsRecord (placed_record at v)
record_placed at (Now o) is = placed_is at o is
record_placed at (Before o) is = subst (λ p. IsOp p × IsOlder p) (sym (older_placed at o is.1)) is
record_placed at Mark is = is

-- an op is a byte longer now than the first version spelt it
pub older_longer : (o : Op) → IsOlder o → op_length o ≡ older_length o + 1
unfolding op_length older_length
older_longer (ops.Format generation epochs) is = omega arith
older_longer (ops.Clean l epoch y) is = refl
older_longer (ops.Accept l lng e) is = absurd is
older_longer (ops.Seal l b) is = absurd is
older_longer (ops.Trim l t) is = absurd is
older_longer (ops.Refill l es) is = absurd is
older_longer (ops.Refilled l) is = absurd is
