-- What a copy of a register's journal makes, and of which records.
use Rattle.std.specs.Prelude.{◌≡◌, ◌≤◌, ◌<◌, ◌⊎◌, ◌+◌, ℕ, Bool, true, List, [], ◌∷◌, ◌++◌, length, take, Ok, IsErrOf, OnErr}
use Rattle.std.specs.Int.{w64, to_be_bytes}
use Rattle.std.specs.declared.result.Result.{Result}
use Rattle.ld_journal.specs.Format.{records, Fits, IsJournal}
use Rattle.ld_msg.specs.Register.{Register, empty_register}
use Rattle.ld_records.specs.Growth.{IsAt}
use Rattle.ld_register.specs.Changes.{Leads}
use Rattle.ld_register.specs.Stands.{StandsFor}
use Rattle.ld_shared.specs.Bodies.{bodies_of}
use Rattle.ld_shared.specs.declared.copying.CopyFault.{CopyFault}
use Rattle.ld_shared.specs.declared.copying.CopyFault.TheVariants as faults

-- the value of the record of this number: the mark of a copy, the number, and the body
abbrev pub copy_of : ℕ → List ℕ → List ℕ
copy_of n body = to_be_bytes w64 0 ++ (to_be_bytes w64 0 ++ (to_be_bytes w64 n ++ body))

-- the values of records with these bodies, from this number on
abbrev pub copies_from : ℕ → List (List ℕ) → List (List ℕ)
copies_from n [] = []
copies_from n (body ∷ bodies) = copy_of n body ∷ copies_from (n + 1) bodies

abbrev pub copies : List (List ℕ) → List (List ℕ)
copies bodies = copies_from 0 bodies

-- these values are those of a copy of the journal in these bytes
pub record AreCopies (bytes : List ℕ) (values : List (List ℕ)) : Type 0 where
  pub bodies : List (List ℕ)
  pub journal : IsJournal bodies bytes
  pub values_are : values ≡ copies bodies

-- these values are those of the journal's first records, up to this offset
pub record HasCopied (bytes : List ℕ) (at n : ℕ) (values : List (List ℕ)) : Type 0 where
  pub bodies : List (List ℕ)
  pub rest : List ℕ
  pub bytes_are : bytes ≡ records bodies ++ rest
  pub place_is : at ≡ length (records bodies)
  pub some : 0 < length rest
  pub fits : Fits bodies
  pub count : n ≡ length bodies
  pub values_are : values ≡ copies bodies

-- these are all records that are known: one for each record of a register's journal, in its order, with its body; and they lead
-- to the contents that the journal stands for
pub record IsCopied (bytes : List ℕ) (n : ℕ) (values : List (List ℕ)) : Type 0 where
  pub bodies : List (List ℕ)
  pub journal : IsJournal bodies bytes
  pub count : n ≡ length bodies
  pub values_are : values ≡ copies bodies
  pub bodies_are : bodies_of values ≡ bodies
  pub contents : Register
  pub leads : Leads empty_register (bodies_of values) contents
  pub stands : StandsFor bytes contents

-- the record of this number has the same value in both lists
pub record IsSameAt (n : ℕ) (all values : List (List ℕ)) : Type 0 where
  pub value : List ℕ
  pub there : IsAt n value values
  pub same : IsAt n value all

-- it has another value than in the whole list, or isn't there
pub record IsOtherAt (n : ℕ) (all values : List (List ℕ)) : Type 0 where
  pub value : List ℕ
  pub there : IsAt n value values
  pub differs : IsAt n value all → ⊥

-- and those before it are the same
pub record IsOther (n : ℕ) (all values : List (List ℕ)) : Type 0 where
  pub front : take n values ≡ take n all
  pub at : IsOtherAt n all values

-- of a copy of the journal in these bytes
pub record IsOtherThan (bytes : List ℕ) (n : ℕ) (values : List (List ℕ)) : Type 0 where
  pub bodies : List (List ℕ)
  pub journal : IsJournal bodies bytes
  pub other : IsOther n (copies bodies) values

-- these are the first so many of the whole list
abbrev pub IsFront : ℕ → List (List ℕ) → List (List ℕ) → Type 0
IsFront n all values = (n ≤ length all) × (values ≡ take n all)

-- where nobody else appends: the first of these records were there, and all are, or more of them where memory ended or the disk
-- failed; or other records were there, and it is refused and nothing is made
pub record MakesAlone (all before now : List (List ℕ)) (result : Result ℕ CopyFault) : Type 0 where
  pub goes_on : (n : ℕ) → IsFront n all before → ((result ≡ Ok (length all)) × (now ≡ all))
      ⊎ ((IsErrOf result faults.NoMemory ⊎ IsErrOf result faults.Disk) × (m : ℕ) × (n ≤ m) × IsFront m all now)
  pub refused : ((n : ℕ) → IsFront n all before → ⊥) → (((n : ℕ) × IsErrOf result (faults.Taken n)) ⊎ IsErrOf result faults.NoMemory ⊎ IsErrOf result faults.Disk) × (now ≡ before)

-- one of them: it was there, or it is made; or nothing is made
pub record MakesOneAlone (n : ℕ) (all before now : List (List ℕ)) (result : Result Bool CopyFault) : Type 0 where
  pub made : result ≡ Ok true → ((n < length before) × (now ≡ before)) ⊎ ((n ≡ length before) × (value : List ℕ) × IsAt n value all × (now ≡ before ++ value ∷ []))
  pub others : (result ≡ Ok true) ⊎ (now ≡ before)
  pub refused : OnErr result (IsErrOf result faults.NoMemory ⊎ ((m : ℕ) × IsErrOf result (faults.Taken m)))
