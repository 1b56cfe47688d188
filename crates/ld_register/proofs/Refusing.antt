-- Which fault of a journal a register passed on, and what it says of a close that it is overtaken.
use Rattle.std.proofs.Common.{◌≡◌, ◌≢◌, ◌==◌, ◌&&◌, ◌∙◌, ℕ, Bool, true, false, not, refl, ap, sym, subst, Result}
use Rattle.std.proofs.lemmas.Bool.{eq-eqb}
use Rattle.std.specs.Result.{IsErrAnd, IsErrOf}
use Rattle.ld_journal.specs.declared.fault.JournalFault.{JournalFault}
use Rattle.ld_journal.specs.declared.fault.JournalFault.TheVariants as journals
use Rattle.ld_register.specs.declared.fault.RegisterFault.TheVariants as registers
use Rattle.ld_register.specs.Faults.{passed_on}

pub of_damaged : (e : JournalFault) (place : ℕ) → passed_on e ≡ registers.Damaged place → e ≡ journals.Damaged place
of_damaged journals.Disk place is = absurd (cc is)
of_damaged (journals.Damaged other) place is = ap (λ n. journals.Damaged n) (cc is)
of_damaged journals.Full place is = absurd (cc is)
of_damaged journals.NeedsLoad place is = absurd (cc is)
of_damaged journals.NoMemory place is = absurd (cc is)

-- what holds of an error holds of the one that it is
pub err_is : {T E : Type 0} (r : Result T E) (e : E) (P : E → Type 0) → IsErrAnd r P → IsErrOf r e → P e
err_is r e P and is = subst (λ r. IsErrAnd r P) is and

pub same_place : (m n : ℕ) → registers.Damaged m ≡ registers.Damaged n → m ≡ n
same_place m n is = cc

pub no_place : (n : ℕ) → registers.NoMemory ≡ registers.Damaged n → ⊥
no_place n is = absurd (cc is)

pub same_epoch : (m n : ℕ) → registers.Overtaken m ≡ registers.Overtaken n → m ≡ n
same_epoch m n is = cc

-- a close that is overtaken is short, and not of the sequencer of the greatest epoch
pub late_is : (short : Bool) (kept ballot : ℕ) → (short && not (kept == ballot)) ≡ true → (short ≡ true) × (kept ≢ ballot)
late_is true kept ballot h = (refl, λ same. absurd (let e = eq-eqb kept ballot same in let f = sym h ∙ ap not e in cc f))
late_is false kept ballot h = absurd (cc h)
