-- What an open journal knows of its disk.
use Rattle.std.specs.Prelude.{◌≡◌, ◌<◌, ℕ, List, ◌++◌, length, Option, Some, Bool, true, false}
use Rattle.ld_disk.specs.Images.{Only}
use Rattle.ld_journal.specs.Format.{records, Fits}
use Rattle.ld_journal.specs.Rest.{AtRest}
use Rattle.ld_journal.specs.declared.journal.Journal.{Journal}

module _ {D : Type 0} where
  -- the disk that the journal owns
  abbrev pub disk_of : Journal D → D
  disk_of journal = journal.disk

  -- the offset of the gate behind the bodies that were given
  abbrev pub place_of : Journal D → ℕ
  place_of journal = journal.at

  -- how long the disk is, as far as the journal knows
  abbrev pub length_of : Journal D → ℕ
  length_of journal = journal.len

  -- all bodies were given
  abbrev pub has_ended : Journal D → Bool
  has_ended journal = journal.ended

  -- an earlier call answered that the disk failed
  abbrev pub must_load : Journal D → Bool
  must_load journal = journal.failed

module _ {D : Type 0} (seen : D → Option (List ℕ)) (may_leave : D → List ℕ → Type 0) where
  -- these bodies were given, all that the journal has: the next append goes behind them
  pub record IsSettled (journal : Journal D) (bodies : List (List ℕ)) : Type 0 where
    pub rests : AtRest seen may_leave journal.disk journal.at bodies
    pub ended : journal.ended ≡ true
    pub works : journal.failed ≡ false

  -- these bodies were given, and the rest of the bytes is still to be read
  pub record HasGiven (journal : Journal D) (bodies : List (List ℕ)) (rest : List ℕ) : Type 0 where
    pub bytes : seen journal.disk ≡ Some (records bodies ++ rest)
    pub place_is : journal.at ≡ length (records bodies)
    pub len_is : journal.len ≡ length (records bodies ++ rest)
    pub stable : Only (records bodies ++ rest) (may_leave journal.disk)
    pub some : 0 < length rest
    pub fits : Fits bodies
    pub works : journal.failed ≡ false
    pub goes_on : journal.ended ≡ false
