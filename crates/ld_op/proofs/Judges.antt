-- What follows from how bytes are judged.
use Rattle.std.proofs.Common.{◌≡◌, ◌∙◌, ap, List, ℕ, Result, Ok, Err, IfOk, IfErr, refl}
use Rattle.ld_op.specs.declared.record.Record.{Record}
use Rattle.ld_op.specs.declared.fault.OpFault.{OpFault}
use Rattle.ld_op.specs.declared.fault.OpFault.TheVariants.{Bad, NoMemory}
use Rattle.ld_op.specs.Bounds.{IsRecord}
use Rattle.ld_op.specs.Bytes.{record_bytes, judge}
use Rattle.ld_op.specs.Judged.{IsRefused}
use Rattle.ld_op.proofs.Spelling.{judge-record_bytes}

module _ {T E : Type 0} where
  pub ok_with : (r : Result T E) (P Q : T → Type 0) → ((v : T) → P v → Q v) → IfOk r P → IfOk r Q
  ok_with (Ok v) P Q f p = f v p
  ok_with (Err e) P Q f p = tt

  pub err_with : (r : Result T E) (P Q : E → Type 0) → ((e : E) → P e → Q e) → IfErr r P → IfErr r Q
  err_with (Ok v) P Q f p = tt
  err_with (Err e) P Q f p = f e p

-- no record's bytes are refused
pub not_off : (bs : List ℕ) (f : OpFault) → IsRefused (judge bs) f → (v : Record) → IsRecord v → bs ≡ record_bytes v → f ≡ NoMemory
not_off bs (Bad place) h v i e = let g = ap judge e ∙ judge-record_bytes v i in absurd cc
not_off bs NoMemory h v i e = refl
