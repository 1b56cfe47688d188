-- What a text's next byte makes of it, and what is no text.
use Rattle.std.specs.Prelude.{ℕ, ◌≡◌, ◌≤◌, ◌==◌, if◌then◌else◌, List, ◌∷◌, ◌++◌, Option, None, Some, Result, Ok, Err}
use Rattle.ld_ids.specs.Bytes.{AreBytes}
use Rattle.ld_text.specs.declared.reading.At.{At}
use Rattle.ld_text.specs.declared.fault.TextFault.{TextFault}
use Rattle.ld_text.specs.declared.fault.TextFault.TheVariants.{Bad, NoMemory}
use Rattle.ld_text.specs.Text.{text_of, bytes_from}

-- the byte that a `\` and this one stand for
abbrev pub escaped : ℕ → ℕ
escaped b = if b == 110 then 10 else if b == 114 then 13 else 92

-- the number as a byte, none where it is too great
abbrev pub IsByteOf : ℕ → Option ℕ → Type 0
IsByteOf n None = 256 ≤ n
IsByteOf n (Some b) = b ≡ n

-- the next number that the text spells is too great for a byte
pub record IsTooGreat (spelled : List ℕ) : Type 0 where
  pub first : ℕ
  pub rest : List ℕ
  pub is : spelled ≡ first ∷ rest
  pub great : 256 ≤ first

-- the byte was taken
abbrev pub IsStep : At → ℕ → List ℕ → List ℕ → Result At TextFault → Type 0
IsStep at b old new (Ok next) = (text : List ℕ) → old ++ bytes_from at (b ∷ text) ≡ new ++ bytes_from next text
IsStep at b old new (Err (Bad place)) = ((text : List ℕ) → IsTooGreat (bytes_from at (b ∷ text))) × (new ≡ old)
IsStep at b old new (Err NoMemory) = Unit {0}

-- the line is the text of no payload; or memory ended
abbrev pub IsNoText : List ℕ → TextFault → Type 0
IsNoText line (Bad place) = (payload : List ℕ) → AreBytes payload → line ≡ text_of payload → ⊥
IsNoText line NoMemory = Unit {0}
