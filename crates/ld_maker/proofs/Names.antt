-- The names of sequencers.
use Rattle.std.proofs.Common.{◌≡◌, ℕ, ◌<◌, ◌≤◌, ◌^◌, length, get_or, true, refl, arith, decimal}
use Rattle.std.specs.Str.Parse.{AllDigits, digits_value}
use Rattle.std.specs.List.{AllPass}
use Rattle.std.proofs.lemmas.Grind.{common_steps}
use Rattle.std.proofs.lemmas.List.Elements.{All-cons, All-from_get_or}
use Rattle.std.proofs.lemmas.Str.Parse.{numerals_by_value, tells_digits, IsNumeralModel, digit_at}
use Rattle.std.proofs.lemmas.Fmt.{digits_decimal, length-decimal-le}
use Rattle.ld_schedule.specs.Grammar.{IsName, is_name_byte}
use Rattle.ld_maker.specs.Event.{sequencer_name}

numerals : IsNumeralModel (AllDigits 10) (digits_value 10)
numerals = numerals_by_value (AllDigits 10) tells_digits

abbrev passes : ℕ → Type 0
passes b = is_name_byte b ≡ true

digit_passes : (b : ℕ) → 48 ≤ b → b ≤ 57 → passes b
digit_passes b low high = grind (arith, common_steps)

digits_pass : (n : ℕ) → n < 2 ^ 64 → AllPass is_name_byte (decimal n)
digits_pass n small =
    All-from_get_or passes (decimal n) 0 (λ i lt. let d = digit_at (decimal n) i (digits_decimal numerals n small) lt in digit_passes (get_or (decimal n) i 0) d.0 d.1)

pub sequencer_is_named : (n : ℕ) → n < 2 ^ 32 → IsName (sequencer_name n)
sequencer_is_named n small =
    let short : length (decimal n) ≤ 10 = length-decimal-le 10 n (omega arith) (omega arith) (omega arith) in (
      omega arith,
      omega (arith, short),
      All-cons passes 115 (decimal n) refl (digits_pass n (omega arith)),
    )
