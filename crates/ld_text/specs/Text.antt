-- Payloads as text: a line is a payload.
use Rattle.std.specs.Prelude.{ℕ, zero, suc, ◌+◌, ◌-◌, ◌*◌, ◌/◌, ◌%◌, ◌==◌, nat_lt, if◌then◌else◌, List, [], ◌∷◌, ◌++◌, length, take, drop}
use Rattle.ld_text.specs.declared.reading.At.{At}
use Rattle.ld_text.specs.declared.reading.At.TheVariants.{Plain, Escape, High, Low}
use Rattle.std.specs.Str.Lossy.{utf8_valid_len, utf8_invalid_len}

-- ---- the text of a payload ----

-- a small hexadecimal digit
abbrev pub digit : ℕ → ℕ
digit n = if nat_lt n 10 then 48 + n else 87 + n

-- a byte that is no part of a character, as `\xHH`
abbrev pub odd_byte : ℕ → List ℕ
odd_byte b = 92 ∷ 120 ∷ digit (b / 16) ∷ digit (b % 16) ∷ []

-- a byte of a character: the bytes 10, 13 and 92 are `\n`, `\r` and `\\`, and any other stands for itself
abbrev pub plain_byte : ℕ → List ℕ
plain_byte b = if b == 10 then 92 ∷ 110 ∷ [] else if b == 13 then 92 ∷ 114 ∷ [] else if b == 92 then 92 ∷ 92 ∷ [] else b ∷ []

unfoldable pub odd : List ℕ → List ℕ
odd [] = []
odd (b ∷ bytes) = odd_byte b ++ odd bytes

unfoldable pub plain : List ℕ → List ℕ
plain [] = []
plain (b ∷ bytes) = plain_byte b ++ plain bytes

-- the characters in front, and then the bytes up to the next character
abbrev pub characters : List ℕ → List ℕ
characters bytes = take (utf8_valid_len bytes) bytes

abbrev pub behind_characters : List ℕ → List ℕ
behind_characters bytes = drop (utf8_valid_len bytes) bytes

-- with at most so many stretches of characters
unfoldable pub text_within : ℕ → List ℕ → List ℕ
text_within zero bytes = odd bytes
text_within (suc n) bytes = let rest = behind_characters bytes in
    plain (characters bytes) ++ (odd (take (utf8_invalid_len rest) rest) ++ text_within n (drop (utf8_invalid_len rest) rest))

-- the text of a payload, without the byte that ends its line
abbrev pub text_of : List ℕ → List ℕ
text_of bytes = text_within (length bytes) bytes

-- ---- the payload of a text ----

abbrev pub value : ℕ → ℕ
value c = if nat_lt c 58 then c - 48 else c - 87

-- the bytes that a text spells, where it is one of some payload
unfoldable pub bytes_from : At → List ℕ → List ℕ
bytes_from at [] = []
bytes_from Plain (b ∷ text) = if b == 92 then bytes_from Escape text else b ∷ bytes_from Plain text
bytes_from Escape (b ∷ text) = if b == 110 then 10 ∷ bytes_from Plain text else if b == 114 then 13 ∷ bytes_from Plain text else if b == 120 then bytes_from High text else 92 ∷ bytes_from Plain text
bytes_from High (b ∷ text) = bytes_from (Low b) text
bytes_from (Low high) (b ∷ text) = (16 * value high + value b) ∷ bytes_from Plain text

abbrev pub bytes_in : List ℕ → List ℕ
bytes_in text = bytes_from Plain text
