-- A set as a number.
use Rattle.std.proofs.Common.{◌≡◌, ◌∙◌, ℕ, zero, suc, ◌+◌, ◌-◌, ◌*◌, ◌/◌, ◌%◌, ◌^◌, ◌≤◌, ◌<◌, List, [], ◌∷◌, ◌++◌, length, take, drop, set, get_or, true, false, refl, sym, ap, subst, arith, append_assoc, append-nil, inl, inr}
use Rattle.std.specs.Prelude.{Bool, ◌==◌, if◌then◌else◌}
use Rattle.std.proofs.lemmas.Bool.{cases_eq, eq-eqb, ne_eqb}
use Rattle.std.proofs.lemmas.List.{drop_more, drop_all, take_more_set, take_all}
use Rattle.std.proofs.Math.Nat.{pow-succ'}
use mir.Val.{bool_byte}
use Rattle.ld_ids.specs.Set.{IsSet, set_bits, bits_flags, bits_set}

-- the number of one bit
abbrev pub bit : Bool → ℕ
bit b = if b then 1 else 0

pub byte_bit : (b : Bool) → bool_byte b ≡ bit b
byte_bit true = refl
byte_bit false = refl

drop_bits : (k : ℕ) (flags : List Bool) → set_bits (drop k flags) ≤ set_bits flags
unfolding set_bits
drop_bits zero flags = omega arith
drop_bits (suc k) [] = omega arith
drop_bits (suc k) (b ∷ flags) = omega (arith, drop_bits k flags)

bits_below : (flags : List Bool) → set_bits flags < 2 ^ length flags
unfolding set_bits
bits_below [] = omega arith
bits_below (true ∷ flags) = omega (arith, bits_below flags, pow-succ' 2 (length flags))
bits_below (false ∷ flags) = omega (arith, bits_below flags, pow-succ' 2 (length flags))

pub bits_small : (flags : List Bool) → IsSet flags → set_bits flags < 2 ^ 16
bits_small flags is = subst (λ n. set_bits flags < 2 ^ n) is (bits_below flags)

-- one bit more, from the highest down
pub bits_more : (i : ℕ) (flags : List Bool) → IsSet flags → i < 16 → set_bits (drop (16 - i) flags) * 2 + bit (get_or flags (15 - i) false) ≡ set_bits (drop (16 - (i + 1)) flags)
unfolding set_bits
bits_more i flags is inside =
    let here : 16 - (i + 1) ≡ 15 - i = omega arith in
    let next : 15 - i + 1 ≡ 16 - i = omega arith in
    let more : set_bits (drop (15 - i) flags) ≡ set_bits (get_or flags (15 - i) false ∷ drop (16 - i) flags) = ap set_bits (drop_more flags (15 - i) false (omega (arith, is)) ∙ ap (λ n. get_or flags (15 - i) false ∷ drop n flags) next) in
    rw here (omega (arith, more))

pub bits_fit : (i : ℕ) (flags : List Bool) → IsSet flags → i < 16 → set_bits (drop (16 - i) flags) * 2 + bit (get_or flags (15 - i) false) < 2 ^ 16
bits_fit i flags is inside = omega (arith, bits_more i flags is inside, drop_bits (16 - (i + 1)) flags, bits_small flags is)

pub bits_none : (flags : List Bool) → IsSet flags → 0 ≡ set_bits (drop 16 flags)
unfolding set_bits
bits_none flags is = ap set_bits (sym (drop_all 16 flags (omega (arith, is))))

-- flags are told by their number
flags_again : (flags : List Bool) → bits_flags (length flags) (set_bits flags) ≡ flags
unfolding set_bits bits_flags
flags_again [] = refl
flags_again (true ∷ flags) =
    let odd : (1 + 2 * set_bits flags) % 2 ≡ 1 = omega arith in
    let half : (1 + 2 * set_bits flags) / 2 ≡ set_bits flags = omega arith in
    rw (eq-eqb _ _ odd, half, flags_again flags) refl
flags_again (false ∷ flags) =
    let even : (0 + 2 * set_bits flags) % 2 ≡ 1 → ⊥ = λ e. omega (arith, e) in
    let half : (0 + 2 * set_bits flags) / 2 ≡ set_bits flags = omega arith in
    rw (ne_eqb _ _ even, half, flags_again flags) refl

pub set_again : (flags : List Bool) → IsSet flags → bits_set (set_bits flags) ≡ flags
set_again flags is = subst (λ n. bits_flags n (set_bits flags) ≡ flags) is (flags_again flags)

-- and the number by its flags
bits_again : (count bits : ℕ) → bits < 2 ^ count → set_bits (bits_flags count bits) ≡ bits
unfolding set_bits bits_flags
bits_again zero bits small = omega arith
bits_again (suc count) bits small =
    let half : bits / 2 < 2 ^ count = omega (arith, small, pow-succ' 2 count) in
    elim (cases_eq (bits % 2) 1) [
      | inl odd ↦ rw (eq-eqb (bits % 2) 1 odd, bits_again count (bits / 2) half) (omega (arith, odd))
      | inr even ↦ rw (ne_eqb (bits % 2) 1 even, bits_again count (bits / 2) half) (omega (arith, even))
    ]

pub number_again : (bits : ℕ) → bits < 2 ^ 16 → set_bits (bits_set bits) ≡ bits
number_again bits small = bits_again 16 bits small

flags_more : (count bits : ℕ) → 0 < count → bits_flags count bits ≡ (bits % 2 == 1) ∷ bits_flags (count - 1) (bits / 2)
unfolding bits_flags
flags_more zero bits some = absurd (omega arith)
flags_more (suc count) bits some =
    let one : suc count - 1 ≡ count = omega arith in
    rw one refl

-- one flag more, from the lowest up
pub flag_more : (i bits left : ℕ) (has : List Bool) → i < 16 → length has ≡ 16 → bits_set bits ≡ take i has ++ bits_flags (16 - i) left
    → bits_set bits ≡ take (i + 1) (set has i (left % 2 == 1)) ++ bits_flags (16 - (i + 1)) (left / 2)
flag_more i bits left has inside long so_far =
    let count : 16 - i - 1 ≡ 16 - (i + 1) = omega arith in
    let b = left % 2 == 1 in
    so_far ∙ ap (λ l. take i has ++ l) (flags_more (16 - i) left (omega arith) ∙ ap (λ n. b ∷ bits_flags n (left / 2)) count)
    ∙ sym (append_assoc (take i has) (b ∷ []) (bits_flags (16 - (i + 1)) (left / 2))) ∙ ap (λ l. l ++ bits_flags (16 - (i + 1)) (left / 2)) (sym (take_more_set has i b (omega arith)))

pub flags_all : (i left : ℕ) (has : List Bool) → 16 ≤ i → length has ≡ 16 → take i has ++ bits_flags (16 - i) left ≡ has
unfolding bits_flags
flags_all i left has past long =
    let none : 16 - i ≡ 0 = omega arith in
    let whole : take i has ≡ has = take_all i has (omega arith) in
    rw (none, whole) (append-nil has)
