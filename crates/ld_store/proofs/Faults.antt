-- Which fault of a journal a store passed on.
use Rattle.std.proofs.Common.{◌≡◌, ◌⊎◌, inl, inr, ℕ, ap, refl, subst, Some, Result, Ok, Err}
use Rattle.std.specs.Result.{IsErr, IsErrAnd, IsErrOf}
use Rattle.ld_journal.specs.declared.fault.JournalFault.{JournalFault}
use Rattle.ld_journal.specs.declared.fault.JournalFault.TheVariants as journals
use Rattle.ld_store.specs.declared.fault.StoreFault.{StoreFault}
use Rattle.ld_store.specs.declared.fault.StoreFault.TheVariants as stores
use Rattle.ld_store.specs.Faults.{passed_on}
use Rattle.ld_store.specs.Loads.{refused_by}

abbrev pub refusal : StoreFault → Result (Unit {0}) StoreFault
refusal e = Err e

abbrev pub journal_refusal : JournalFault → Result (Unit {0}) JournalFault
journal_refusal e = Err e

abbrev pub journal_ok : Result (Unit {0}) JournalFault
journal_ok = Ok tt

pub of_damaged : (e : JournalFault) (place : ℕ) → passed_on e ≡ stores.Damaged place → e ≡ journals.Damaged place
of_damaged journals.Disk place is = absurd (cc is)
of_damaged (journals.Damaged other) place is = ap (λ n. journals.Damaged n) (cc is)
of_damaged journals.Full place is = absurd (cc is)
of_damaged journals.NeedsLoad place is = absurd (cc is)
of_damaged journals.NoMemory place is = absurd (cc is)

-- what holds of an error holds of the one that it is
pub err_is : {T E : Type 0} (r : Result T E) (e : E) (P : E → Type 0) → IsErrAnd r P → IsErrOf r e → P e
err_is r e P and is = subst (λ r. IsErrAnd r P) is and

pub same_place : (m n : ℕ) → stores.Damaged m ≡ stores.Damaged n → m ≡ n
same_place m n is = cc

pub no_place : (n : ℕ) → stores.NoMemory ≡ stores.Damaged n → ⊥
no_place n is = absurd (cc is)

pub of_full : (e : JournalFault) → passed_on e ≡ stores.Full → e ≡ journals.Full
of_full journals.Disk is = absurd (cc is)
of_full (journals.Damaged other) is = absurd (cc is)
of_full journals.Full is = refl
of_full journals.NeedsLoad is = absurd (cc is)
of_full journals.NoMemory is = absurd (cc is)

-- the error of a refusal
pub error_in : (a b : StoreFault) → refusal a ≡ refusal b → a ≡ b
error_in a b is = cc is

pub none_refused : (e : JournalFault) → journal_ok ≡ journal_refusal e → ⊥
none_refused e is = absurd (cc is)

abbrev pub no_refusal : Result (Unit {0}) StoreFault
no_refusal = Ok tt

pub never_refused : (e : StoreFault) → no_refusal ≡ refusal e → ⊥
never_refused e is = absurd (cc is)

-- the fault of an answer that was passed on
pub passed : {T : Type 0} (r : Result T StoreFault) (e : StoreFault) → IsErr r → IsErrAnd r (λ f. f ≡ e) → refused_by r ≡ Some e
passed (Ok v) e is and = absurd (cc is)
passed (Err f) e is and = ap (λ x. Some x) and

pub fault_in : (a b : JournalFault) → journal_refusal a ≡ journal_refusal b → a ≡ b
fault_in a b is = cc is

-- a refusal that is none of the others is for the limit or when out of memory
pub limits_err : (e : StoreFault) → (e ≡ stores.Disk → ⊥) → ((place : ℕ) → e ≡ stores.Damaged place → ⊥) → (e ≡ stores.NeedsLoad → ⊥) → IsErrOf (refusal e) stores.Full ⊎ IsErrOf (refusal e) stores.NoMemory
limits_err stores.Disk disk damaged needs = absurd (disk refl)
limits_err (stores.Damaged place) disk damaged needs = absurd (damaged place refl)
limits_err stores.Full disk damaged needs = inl refl
limits_err stores.NeedsLoad disk damaged needs = absurd (needs refl)
limits_err stores.NoMemory disk damaged needs = inr refl
