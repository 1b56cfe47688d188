-- What a text's next byte makes of it.
use Rattle.std.proofs.Common.{◌≡◌, ◌+◌, ◌*◌, ℕ, List, [], ◌∷◌, ◌++◌, refl, sym, subst, append_assoc, arith}
use Rattle.ld_text.specs.declared.reading.At.{At}
use Rattle.ld_text.specs.declared.reading.At.TheVariants.{Plain, Escape, High, Low}
use Rattle.ld_text.specs.Text.{value, bytes_from}
use Rattle.std.specs.Prelude.{Result, Ok, Err, MatchResult}
use Rattle.ld_text.specs.declared.fault.TextFault.{TextFault}
use Rattle.ld_text.specs.declared.fault.TextFault.TheVariants.{NoMemory}
use Rattle.ld_text.specs.Reading.{escaped, IsStep}

pub plain_escape : (b : ℕ) (text : List ℕ) → b ≡ 92 → bytes_from Plain (b ∷ text) ≡ bytes_from Escape text
unfolding bytes_from
plain_escape b text is = grind arith

pub plain_put : (b : ℕ) (text : List ℕ) → (b ≡ 92 → ⊥) → bytes_from Plain (b ∷ text) ≡ b ∷ bytes_from Plain text
unfolding bytes_from
plain_put b text other = grind arith

pub escape_high : (b : ℕ) (text : List ℕ) → b ≡ 120 → bytes_from Escape (b ∷ text) ≡ bytes_from High text
unfolding bytes_from
escape_high b text is = grind arith

pub escape_put : (b : ℕ) (text : List ℕ) → (b ≡ 120 → ⊥) → bytes_from Escape (b ∷ text) ≡ escaped b ∷ bytes_from Plain text
unfolding bytes_from
escape_put b text other = grind arith

pub high_low : (b : ℕ) (text : List ℕ) → bytes_from High (b ∷ text) ≡ bytes_from (Low b) text
unfolding bytes_from
high_low b text = refl

pub low_put : (high b : ℕ) (text : List ℕ) → bytes_from (Low high) (b ∷ text) ≡ (16 * value high + value b) ∷ bytes_from Plain text
unfolding bytes_from
low_put high b text = refl

-- a byte is put
pub put_on : (out new spelled rest : List ℕ) (x : ℕ) → new ≡ out ++ x ∷ [] → spelled ≡ x ∷ rest → out ++ spelled ≡ new ++ rest
put_on out new spelled rest x is next = rw next (rw is (sym (append_assoc out (x ∷ []) rest)))

pub put_step : (at : At) (b x : ℕ) (old new : List ℕ) (r : Result At TextFault) → ((text : List ℕ) → bytes_from at (b ∷ text) ≡ x ∷ bytes_from Plain text) → MatchResult r (λ next. (next ≡ Plain) × (new ≡ old ++ x ∷ [])) (λ fault. fault ≡ NoMemory)
    → IsStep at b old new r
put_step at b x old new (Ok next) f h = λ text. subst (λ n. old ++ bytes_from at (b ∷ text) ≡ new ++ bytes_from n text) (sym h.0) (put_on old new (bytes_from at (b ∷ text)) (bytes_from Plain text) x h.1 (f text))
put_step at b x old new (Err fault) f h = subst (λ e. IsStep at b old new (Err e)) (sym h) tt
