-- Lines of an input, and what is off in them.
use Rattle.std.specs.Prelude.{ℕ, Bool, true, false, ◌≡◌, ◌≢◌, ◌≤◌, ◌<◌, ◌+◌, ◌^◌, ◌⊎◌, List, [], ◌∷◌, ◌++◌, length}
use Rattle.ld_lsn.specs.Number.{lsn_text}
use Rattle.ld_lsn.specs.Text.{Lacks}
use Rattle.ld_ids.specs.Bytes.{AreBytes, hex_text}
use Rattle.ld_schedule.specs.Grammar.{IsBatch, messages_text}
use Rattle.ld_schedule.specs.Reading.{IsOff}

-- how many bytes a line has at most, without the byte 10 that ends it
abbrev pub longest : ℕ
longest = 200000

-- the line and the byte that ends it
abbrev pub ended : List ℕ → List ℕ
ended line = line ++ 10 ∷ []

-- the line goes on behind the place where it has to have ended
pub record IsLong (bytes : List ℕ) (place : ℕ) : Type 0 where
  pub front : List ℕ
  pub rest : List ℕ
  pub splits : bytes ≡ front ++ rest
  pub long : length front ≡ longest + 1
  pub one : Lacks 10 front
  pub at : place ≡ longest

-- the bytes end in the line
pub record IsCutLine (bytes : List ℕ) (place : ℕ) : Type 0 where
  pub one : Lacks 10 bytes
  pub short : length bytes ≤ longest
  pub at : place ≡ length bytes

-- there is a whole line first
pub record Begins (bytes line rest : List ℕ) : Type 0 where
  pub splits : bytes ≡ ended line ++ rest
  pub one : Lacks 10 line
  pub short : length line ≤ longest

-- a line that begins so, with the bytes of `trim `, is to spell a trim: it goes on with the number that the log is trimmed up to
abbrev pub trim_word : List ℕ
trim_word = 116 ∷ 114 ∷ 105 ∷ 109 ∷ 32 ∷ []

abbrev pub trim_text : ℕ → List ℕ
trim_text point = trim_word ++ lsn_text point

-- the line doesn't begin so
abbrev pub IsNoTrim : List ℕ → Type 0
IsNoTrim line = (behind : List ℕ) → line ≢ trim_word ++ behind

-- it does, and goes on behind the word with what spells no number: there is its syntax error
pub record IsOffTrim (line : List ℕ) (place : ℕ) : Type 0 where
  pub behind : List ℕ
  pub begins : line ≡ trim_word ++ behind
  pub none : (point : ℕ) → point < 2 ^ 64 → behind ≢ lsn_text point
  pub at : place ≡ length trim_word

-- the line spells no payload, or, where lines spell batches, no messages of one; and this is the byte offset of its syntax
-- error
abbrev pub IsOffPayload : Bool → List ℕ → ℕ → Type 0
IsOffPayload false line place = IsOff AreBytes hex_text line place
IsOffPayload true line place = IsOff IsBatch messages_text line place

-- the line spells neither that nor a trim
abbrev pub IsMisspelt : Bool → List ℕ → ℕ → Type 0
IsMisspelt batches line place = IsOffTrim line place ⊎ (IsNoTrim line × IsOffPayload batches line place)

-- a whole line that is misspelt
pub record IsNoRequest (batches : Bool) (bytes : List ℕ) (place : ℕ) : Type 0 where
  pub line : List ℕ
  pub rest : List ℕ
  pub begins : Begins bytes line rest
  pub off : IsMisspelt batches line place

-- how the first line has a syntax error that is to spell a payload, or a batch's messages, or a trim, and at which place
pub record IsOffRequest (batches : Bool) (bytes : List ℕ) (place : ℕ) : Type 0 where
  pub some : 1 ≤ length bytes
  pub off : IsLong bytes place ⊎ IsCutLine bytes place ⊎ IsNoRequest batches bytes place
