-- Plain states stay well.
use Rattle.std.proofs.Common.{◌≡◌, sym, subst, arith}
use Rattle.ld_op.specs.declared.op.Op.{Op}
use Rattle.ld_op.specs.declared.record.Record.{Record}
use Rattle.ld_op.specs.declared.record.Record.TheVariants.{Now, Before, Mark}
use Rattle.ld_op.specs.Plain.{Plain, unformatted, apply}
use Rattle.ld_op.specs.Records.{applied}
use Rattle.ld_op.specs.Bounds.{IsOp, IsRecord}
use Rattle.ld_node_bounds.specs.States.{last_carried}
use Rattle.ld_node_bounds.proofs.Ops.{unformatted_is, apply_is, op_carried}
use Rattle.ld_store.specs.Well.{IsWell}

pub well_too : (p q : Plain) (o : Op) → IsWell p → IsOp o → q ≡ apply p o → IsWell q
well_too p q o well is applied = subst (λ s. IsWell s) (sym applied) (apply_is last_carried p o (omega arith) well (op_carried o is))

well_applied : (p : Plain) (v : Record) → IsWell p → IsRecord v → IsWell (applied p v)
well_applied p (Now o) well is = apply_is last_carried p o (omega arith) well (op_carried o is)
well_applied p (Before o) well is = apply_is last_carried p o (omega arith) well (op_carried o is.0)
well_applied p Mark well is = well

pub well_behind : (p q : Plain) (v : Record) → IsWell p → IsRecord v → q ≡ applied p v → IsWell q
well_behind p q v well is made = subst (λ s. IsWell s) (sym made) (well_applied p v well is)

pub well_new : (p : Plain) → p ≡ unformatted → IsWell p
well_new p new = subst (λ s. IsWell s) (sym new) (unformatted_is last_carried)
