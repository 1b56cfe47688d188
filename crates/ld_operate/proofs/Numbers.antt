-- The text of numbers, one number after the other.
use Rattle.std.proofs.Common.{◌≡◌, ◌∙◌, ℕ, zero, suc, ◌+◌, ◌<◌, List, [], ◌∷◌, ◌++◌, length, take, refl, sym, ap, arith, append_assoc, decimal, Some}
use Rattle.std.specs.List.{slice_get}
use Rattle.ld_ids.specs.Set.{numbers_text}

pub took : (i n : ℕ) (ns : List ℕ) → slice_get ns i ≡ Some n → take (i + 1) ns ≡ take i ns ++ n ∷ []
took i n [] is = absurd (cc)
took zero n (m ∷ ns) is = let same : m ≡ n = cc in ap (λ x. x ∷ []) same
took (suc i) n (m ∷ ns) is =
    let e : suc i + 1 ≡ suc (i + 1) = omega arith in
    rw e (ap (λ l. m ∷ l) (took i n ns is))

joined : (n m : ℕ) (ns : List ℕ) → numbers_text ((m ∷ ns) ++ n ∷ []) ≡ numbers_text (m ∷ ns) ++ (44 ∷ decimal n)
joined n m [] = refl
joined n m (k ∷ ns) = ap (λ l. decimal m ++ (44 ∷ l)) (joined n k ns) ∙ sym (append_assoc (decimal m) (44 ∷ numbers_text (k ∷ ns)) (44 ∷ decimal n))

pub first_number : (i n : ℕ) (ns : List ℕ) → i ≡ 0 → slice_get ns i ≡ Some n → numbers_text (take (i + 1) ns) ≡ numbers_text (take i ns) ++ decimal n
first_number zero n ns none is = ap numbers_text (took 0 n ns is)
first_number (suc i) n ns none is = absurd (omega arith)

later_of : (n : ℕ) (ns : List ℕ) → 0 < length ns → numbers_text (ns ++ n ∷ []) ≡ numbers_text ns ++ (44 ∷ decimal n)
later_of n [] some = absurd (omega arith)
later_of n (m ∷ ns) some = joined n m ns

took_some : (i n : ℕ) (ns : List ℕ) → 0 < i → slice_get ns i ≡ Some n → 0 < length (take i ns)
took_some i n [] some is = absurd (cc)
took_some zero n (m ∷ ns) some is = absurd (omega arith)
took_some (suc i) n (m ∷ ns) some is = omega arith

pub later_number : (i n : ℕ) (ns : List ℕ) → 0 < i → slice_get ns i ≡ Some n → numbers_text (take (i + 1) ns) ≡ numbers_text (take i ns) ++ (44 ∷ decimal n)
later_number i n ns some is = ap numbers_text (took i n ns is) ∙ later_of n (take i ns) (took_some i n ns some is)
