-- What is read of a record whose body stands on the disk.
use Rattle.std.proofs.Common.{◌≡◌, refl, ℕ, List, ◌++◌, drop, ap, ◌∙◌}
use Rattle.ld_op.specs.declared.op.Op.{Op}
use Rattle.ld_op.specs.declared.op.Op.TheVariants as ops
use Rattle.ld_op.specs.declared.record.Record.{Record}
use Rattle.ld_op.specs.declared.record.Record.TheVariants.{Now, Before, Mark}
use Rattle.ld_op.specs.Plain.{Plain, apply}
use Rattle.ld_op.specs.Records.{applied}
use Rattle.ld_op.specs.Bounds.{IsOlder, IsRecord}
use Rattle.ld_op.specs.Bytes.{record_bytes}
use Rattle.ld_op.specs.Cells.{each_op, byte_at, read_plain, placed}
use Rattle.ld_op.proofs.Cells.{apply_same}
use Rattle.ld_op.proofs.Agree.{op_reads}
use Rattle.ld_op.proofs.Reading.{op_read}
use Rattle.ld_segment.specs.Ops.{placed_record}

-- an op that was spelt otherwise before holds no payload
pub older_placed : (at : ℕ) (o : Op) → IsOlder o → placed at o ≡ o
older_placed at (ops.Format generation epochs) is = refl
older_placed at (ops.Accept l lng e) is = absurd is
older_placed at (ops.Seal l b) is = absurd is
older_placed at (ops.Clean l epoch y) is = refl
older_placed at (ops.Trim l t) is = absurd is
older_placed at (ops.Refill l es) is = absurd is
older_placed at (ops.Refilled l) is = absurd is

older_each : (f : ℕ → ℕ) (o : Op) → IsOlder o → each_op f o ≡ o
older_each f (ops.Format generation epochs) is = refl
older_each f (ops.Accept l lng e) is = absurd is
older_each f (ops.Seal l b) is = absurd is
older_each f (ops.Clean l epoch y) is = refl
older_each f (ops.Trim l t) is = absurd is
older_each f (ops.Refill l es) is = absurd is
older_each f (ops.Refilled l) is = absurd is

pub one_read : (at : ℕ) (i p : Plain) (v : Record) (bytes rest : List ℕ) → IsRecord v → drop at bytes ≡ record_bytes v ++ rest → read_plain bytes i ≡ p → read_plain bytes (applied i (placed_record at v)) ≡ applied p v
one_read at i p (Now o) bytes rest is stands same = op_reads i o at bytes bytes refl (op_read at o rest bytes stands) ∙ ap (λ s. apply s o) same
one_read at i p (Before o) bytes rest is stands same =
    ap (λ e. read_plain bytes (apply i e)) (older_placed at o is.1) ∙ apply_same (byte_at bytes) i o ∙ (λ j. apply (same j) (older_each (byte_at bytes) o is.1 j))
one_read at i p Mark bytes rest is stands same = same
