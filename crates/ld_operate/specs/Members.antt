-- The members of a JSON object, whose names and words need no escapes.
use Rattle.std.specs.Prelude.{ℕ, List, ◌++◌, codes, decimal}
use Rattle.ld_lsn.specs.Number.{lsn_text}
use Rattle.ld_ids.specs.Set.{numbers_text}

-- a number, which begins the object
unfoldable pub first_member : List ℕ → ℕ → List ℕ
first_member name number = codes "{\"" ++ name ++ codes "\":" ++ decimal number

-- behind others: a number, a log sequence number as a string, numbers as an array, a word as a string, and one of the words null, true and false as it is
unfoldable pub member : List ℕ → ℕ → List ℕ
member name number = codes ",\"" ++ name ++ codes "\":" ++ decimal number

unfoldable pub lsn_member : List ℕ → ℕ → List ℕ
lsn_member name lsn = codes ",\"" ++ name ++ codes "\":\"" ++ lsn_text lsn ++ codes "\""

unfoldable pub numbers_member : List ℕ → List ℕ → List ℕ
numbers_member name numbers = codes ",\"" ++ name ++ codes "\":[" ++ numbers_text numbers ++ codes "]"

unfoldable pub word_member : List ℕ → List ℕ → List ℕ
word_member name word = codes ",\"" ++ name ++ codes "\":\"" ++ word ++ codes "\""

unfoldable pub plain_member : List ℕ → List ℕ → List ℕ
plain_member name word = codes ",\"" ++ name ++ codes "\":" ++ word
