-- What the bytes of a register's disk represent.
use Rattle.std.specs.Prelude.{◌≡◌, ◌⊎◌, ◌<◌, ◌^◌, ℕ, List, [], ◌∷◌, ◌++◌, length, Option, Some}
use Rattle.ld_msg.specs.Register.{Register, empty_register}
use Rattle.ld_journal.specs.Format.{framed, records, Fits, IsJournal, IsCutShort}
use Rattle.ld_journal.specs.Open.{HasGiven, IsSettled}
use Rattle.ld_journal.specs.declared.journal.Journal.{Journal}
use Rattle.ld_register.specs.declared.change.Change.{Change}
use Rattle.ld_register.specs.Changes.{IsNext, Leads}
use Rattle.ld_register.specs.Kept.{Kept, register_of}

-- a journal of changes, each the next one, that lead to these contents
pub record StandsFor (bytes : List ℕ) (c : Register) : Type 0 where
  pub bodies : List (List ℕ)
  pub journal : IsJournal bodies bytes
  pub leads : Leads empty_register bodies c

-- the bytes that are read are the records of these bodies
pub record HasRecords (seen : Option (List ℕ)) (bodies : List (List ℕ)) : Type 0 where
  pub bytes : List ℕ
  pub seen_is : seen ≡ Some bytes
  pub journal : IsJournal bodies bytes

-- the records from before still stand, with one more behind them or with none
abbrev pub AddsOneAtMost : Option (List ℕ) → Option (List ℕ) → Type 0
AddsOneAtMost before now = (bodies : List (List ℕ)) → HasRecords before bodies → HasRecords now bodies ⊎ ((body : List ℕ) × HasRecords now (bodies ++ body ∷ []))

-- the next record's body is no next change
pub record IsForeign (c : Register) (rest : List ℕ) : Type 0 where
  pub body : List ℕ
  pub after : List ℕ
  pub rest_is : rest ≡ framed body ++ after
  pub some : 0 < length after
  pub fits : length body < 2 ^ 32
  pub none : (x : Change) → IsNext c body x → ⊥

-- the records before this offset are changes, and the one there is cut short or no next change; or there is no byte
pub record IsDamaged (place : ℕ) (bytes : List ℕ) : Type 0 where
  pub bodies : List (List ℕ)
  pub rest : List ℕ
  pub contents : Register
  pub leads : Leads empty_register bodies contents
  pub bytes_are : bytes ≡ records bodies ++ rest
  pub place_is : place ≡ length (records bodies)
  pub fits : Fits bodies
  pub wrong : IsCutShort rest ⊎ IsForeign contents rest ⊎ ((bodies ≡ []) × (rest ≡ []))

module _ {D : Type 0} (seen : D → Option (List ℕ)) (may_leave : D → List ℕ → Type 0) where
  -- of these bytes some records were replayed, and what is kept is what they lead to
  pub record HasReplayed (journal : Journal D) (bytes : List ℕ) (k : Kept) : Type 0 where
    pub bodies : List (List ℕ)
    pub rest : List ℕ
    pub given : HasGiven seen may_leave journal bodies rest
    pub bytes_are : bytes ≡ records bodies ++ rest
    pub contents : Register
    pub leads : Leads empty_register bodies contents
    pub kept : register_of k contents.length ≡ contents

  -- all records were replayed, and what is kept is what they lead to
  pub record IsReplayed (journal : Journal D) (k : Kept) (c : Register) : Type 0 where
    pub bodies : List (List ℕ)
    pub settled : IsSettled seen may_leave journal bodies
    pub leads : Leads empty_register bodies c
    pub kept : register_of k c.length ≡ c
