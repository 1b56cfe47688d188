-- A text is read as the payload whose text it is.
use Rattle.std.proofs.Common.{◌≡◌, ℕ, zero, suc, ◌+◌, ◌-◌, ◌*◌, ◌/◌, ◌%◌, ◌<◌, ◌≤◌, List, [], ◌∷◌, ◌++◌, length, take, drop, refl, ap, sym, ◌∙◌, append_assoc, subst, get_or, drop-cons, arith}
use Rattle.std.proofs.Math.Nat.{div-add-mod}
use Rattle.std.proofs.lemmas.List.{take-append-drop, append-nil}
use Rattle.std.proofs.Math.ListN.{drop_of_length-le}
use Rattle.std.proofs.Math.Seq.{take-append_seam, drop-append_seam, take-nil, drop-nil}
use Rattle.std.specs.Str.Lossy.{utf8_valid_len, utf8_invalid_len}
use Rattle.ld_text.specs.declared.reading.At.TheVariants.{Plain}
use Rattle.ld_text.specs.Text.{digit, odd_byte, plain_byte, odd, plain, characters, behind_characters, text_within, value, bytes_from}

value_of_digit : (n : ℕ) → value (digit n) ≡ n
value_of_digit n = grind arith

byte_again : (b : ℕ) → 16 * value (digit (b / 16)) + value (digit (b % 16)) ≡ b
byte_again b = rw (value_of_digit (b / 16)) (rw (value_of_digit (b % 16)) (div-add-mod b 16))

pub odd_again : (bytes tail : List ℕ) → bytes_from Plain (odd bytes ++ tail) ≡ bytes ++ bytes_from Plain tail
unfolding odd bytes_from
odd_again [] tail = refl
odd_again (b ∷ bytes) tail = rw (byte_again b) (ap (λ xs. b ∷ xs) (odd_again bytes tail))

plain_byte_again : (b : ℕ) (tail : List ℕ) → bytes_from Plain (plain_byte b ++ tail) ≡ b ∷ bytes_from Plain tail
unfolding bytes_from
plain_byte_again b tail = grind arith

pub plain_again : (bytes tail : List ℕ) → bytes_from Plain (plain bytes ++ tail) ≡ bytes ++ bytes_from Plain tail
unfolding plain bytes_from
plain_again [] tail = refl
plain_again (b ∷ bytes) tail = rw (append_assoc (plain_byte b) (plain bytes) tail) (plain_byte_again b (plain bytes ++ tail) ∙ ap (λ xs. b ∷ xs) (plain_again bytes tail))

-- the parts in front of a rest join
joined : (n m : ℕ) (bytes : List ℕ) → take n bytes ++ (take m (drop n bytes) ++ drop m (drop n bytes)) ≡ bytes
joined n m bytes = rw (take-append-drop m (drop n bytes)) (take-append-drop n bytes)

pub text_again : (n : ℕ) (bytes : List ℕ) → bytes_from Plain (text_within n bytes) ≡ bytes
unfolding text_within bytes_from
text_again zero bytes = subst (λ xs. bytes_from Plain xs ≡ bytes) (append-nil (odd bytes)) (odd_again bytes [] ∙ append-nil bytes)
text_again (suc n) bytes =
    let v = characters bytes in
    let rest = behind_characters bytes in
    let m = utf8_invalid_len rest in
    plain_again v (odd (take m rest) ++ text_within n (drop m rest))
    ∙ ap (λ xs. v ++ xs) (odd_again (take m rest) (text_within n (drop m rest)) ∙ ap (λ xs. take m rest ++ xs) (text_again n (drop m rest)))
    ∙ joined (utf8_valid_len bytes) m bytes

at_next : (f : ℕ → List ℕ) (i : ℕ) → f (suc i) ≡ f (i + 1)
at_next f i = let e : suc i ≡ i + 1 = omega arith in ap f e

-- one byte more
pub odd_step : (bytes : List ℕ) (i : ℕ) → i < length bytes → odd (drop i bytes) ≡ odd_byte (get_or bytes i 0) ++ odd (drop (i + 1) bytes)
unfolding odd
odd_step bytes i less = rw (drop-cons bytes i 0 less) (at_next (λ n. odd_byte (get_or bytes i 0) ++ odd (drop n bytes)) i)

pub plain_step : (bytes : List ℕ) (i : ℕ) → i < length bytes → plain (drop i bytes) ≡ plain_byte (get_or bytes i 0) ++ plain (drop (i + 1) bytes)
unfolding plain
plain_step bytes i less = rw (drop-cons bytes i 0 less) (at_next (λ n. plain_byte (get_or bytes i 0) ++ plain (drop n bytes)) i)

-- no byte more
pub odd_end : (out bytes : List ℕ) (i : ℕ) → length bytes ≤ i → out ≡ out ++ odd (drop i bytes)
unfolding odd
odd_end out bytes i most = rw (drop_of_length-le bytes most) (sym (append-nil out))

pub plain_end : (out bytes : List ℕ) (i : ℕ) → length bytes ≤ i → out ≡ out ++ plain (drop i bytes)
unfolding plain
plain_end out bytes i most = rw (drop_of_length-le bytes most) (sym (append-nil out))

pub text_within_none : (n : ℕ) → text_within n [] ≡ []
unfolding text_within odd plain
text_within_none zero = refl
text_within_none (suc n) = rw (take-nil (utf8_valid_len [])) (rw (drop-nil (utf8_valid_len [])) (rw (take-nil (utf8_invalid_len [])) (rw (drop-nil (utf8_invalid_len [])) (text_within_none n))))

step_of : (n k m : ℕ) (v i t : List ℕ) → length v ≡ k → length i ≡ m → plain (take k (v ++ (i ++ t))) ++ (odd (take m (drop k (v ++ (i ++ t)))) ++ text_within n (drop m (drop k (v ++ (i ++ t))))) ≡ plain v ++ (odd i ++ text_within n t)
step_of n k m v i t valid invalid = rw (sym valid, sym invalid) (rw (take-append_seam v (i ++ t)) (rw (drop-append_seam v (i ++ t)) (rw (take-append_seam i t) (rw (drop-append_seam i t) refl))))

-- one stretch of characters, and the bytes behind it
pub text_step : (n : ℕ) (v i t : List ℕ) → length v ≡ utf8_valid_len (v ++ (i ++ t)) → length i ≡ utf8_invalid_len (drop (utf8_valid_len (v ++ (i ++ t))) (v ++ (i ++ t))) → text_within (suc n) (v ++ (i ++ t)) ≡ plain v ++ (odd i ++ text_within n t)
unfolding text_within
text_step n v i t valid invalid = step_of n _ _ v i t valid invalid

nothing_left : (rest : List ℕ) → length rest ≡ 0 → rest ≡ []
nothing_left [] none = refl
nothing_left (b ∷ rest) none = absurd (omega (arith, none))

-- no byte is left to spell
pub spelled_all : (n : ℕ) (rest out goal : List ℕ) → length rest ≡ 0 → out ++ text_within n rest ≡ goal → out ≡ goal
spelled_all n rest out goal none on =
    let empty : out ++ text_within n [] ≡ goal = subst (λ r. out ++ text_within n r ≡ goal) (nothing_left rest none) on in
    let more : out ++ [] ≡ goal = subst (λ xs. out ++ xs ≡ goal) (text_within_none n) empty in
    sym (append-nil out) ∙ more

-- a stretch of characters, and the bytes behind it, are spelled
pub spelled_on : (len at : ℕ) (v i t rest out mid new goal : List ℕ) → at < len → rest ≡ v ++ (i ++ t) → length v ≡ utf8_valid_len rest → length i ≡ utf8_invalid_len (drop (utf8_valid_len rest) rest) → mid ≡ out ++ plain v → new ≡ mid ++ odd i
    → out ++ text_within (len - at) rest ≡ goal → new ++ text_within (len - (at + 1)) t ≡ goal
spelled_on len at v i t rest out mid new goal less is valid invalid mid_is new_is on =
    let n : ℕ = len - (at + 1) in
    let e : len - at ≡ suc n = omega (arith, less) in
    let a : length v ≡ utf8_valid_len (v ++ (i ++ t)) = subst (λ r. length v ≡ utf8_valid_len r) is valid in
    let b : length i ≡ utf8_invalid_len (drop (utf8_valid_len (v ++ (i ++ t))) (v ++ (i ++ t))) = subst (λ r. length i ≡ utf8_invalid_len (drop (utf8_valid_len r) r)) is invalid in
    let whole : out ++ text_within (suc n) (v ++ (i ++ t)) ≡ goal = subst (λ m. out ++ text_within m (v ++ (i ++ t)) ≡ goal) e (subst (λ r. out ++ text_within (len - at) r ≡ goal) is on) in
    rw new_is (rw mid_is (append_assoc (out ++ plain v) (odd i) (text_within n t) ∙ append_assoc out (plain v) (odd i ++ text_within n t) ∙ ap (λ xs. out ++ xs) (sym (text_step n v i t a b)) ∙ whole))
