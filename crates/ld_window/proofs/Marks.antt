-- Flags of numbers, of which the first ones are set.
use Rattle.std.proofs.Common.{◌≡◌, ℕ, zero, suc, ◌+◌, ◌<◌, List, [], ◌∷◌, ◌++◌, get_or, set, length, true, false, refl, ap, ◌∙◌, sym, arith, length-append}
use Rattle.std.specs.Prelude.{Bool, replicate}
use Rattle.std.proofs.lemmas.List.{length-replicate}
use Rattle.ld_window.specs.Flags.{leading, above}

pub leading-stored : (n : ℕ) (flags : List Bool) → leading (replicate n true ++ flags) ≡ n + leading flags
leading-stored zero flags = omega arith
leading-stored (suc n) flags = omega (arith, leading-stored n flags)

pub leading-push : (flags : List Bool) → leading flags ≡ 0 → leading (flags ++ false ∷ []) ≡ 0
leading-push [] h = refl
leading-push (true ∷ flags) h = absurd (omega arith)
leading-push (false ∷ flags) h = refl

pub set-above : (n i k : ℕ) (flags : List Bool) → k ≡ n + i → set (replicate n true ++ flags) k true ≡ replicate n true ++ set flags i true
set-above zero i k flags e = let same : k ≡ i = omega arith in rw same refl
set-above (suc n) i zero flags e = absurd (omega arith)
set-above (suc n) i (suc k) flags e = ap (λ t. true ∷ t) (set-above n i k flags (omega arith))

pub set-stored : (n i : ℕ) (flags : List Bool) → i < n → set (replicate n true ++ flags) i true ≡ replicate n true ++ flags
set-stored zero i flags h = absurd (omega arith)
set-stored (suc n) zero flags h = refl
set-stored (suc n) (suc i) flags h = ap (λ t. true ∷ t) (set-stored n i flags (omega arith))

pub stored-more : (n k : ℕ) (flags : List Bool) → k ≡ n + 1 → replicate k true ++ flags ≡ replicate n true ++ true ∷ flags
stored-more n zero flags e = absurd (omega arith)
stored-more zero (suc k) flags e = let none : k ≡ 0 = omega arith in rw none refl
stored-more (suc n) (suc k) flags e = ap (λ t. true ∷ t) (stored-more n k flags (omega arith))

pub stored-join : (n m k : ℕ) (flags : List Bool) → k ≡ n + m → replicate n true ++ (replicate m true ++ flags) ≡ replicate k true ++ flags
stored-join zero m k flags e = let same : k ≡ m = omega arith in rw same refl
stored-join (suc n) m zero flags e = absurd (omega arith)
stored-join (suc n) m (suc k) flags e = ap (λ t. true ∷ t) (stored-join n m k flags (omega arith))

pub length-stored : (n : ℕ) (flags : List Bool) → length (replicate n true ++ flags) ≡ n + length flags
length-stored n flags = omega (arith, length-append (replicate n true) flags, length-replicate n true)

pub above-stored : (n : ℕ) (flags : List Bool) → leading flags ≡ 0 → above (replicate n true ++ flags) ≡ length flags
above-stored n flags h = omega (arith, leading-stored n flags, length-stored n flags)

pub leading-all : (flags : List Bool) (i : ℕ) → i < leading flags → get_or flags i false ≡ true
leading-all [] i h = absurd (omega arith)
leading-all (true ∷ flags) zero h = refl
leading-all (true ∷ flags) (suc i) h = leading-all flags i (omega arith)
leading-all (false ∷ flags) i h = absurd (omega arith)

pub leading-next : (flags : List Bool) → get_or flags (leading flags) false ≡ false
leading-next [] = refl
leading-next (true ∷ flags) = leading-next flags
leading-next (false ∷ flags) = refl

-- a number is stored, and then those at the front that are set are counted
pub stored-now : (n i m k : ℕ) (flags left : List Bool) → set flags i true ≡ replicate m true ++ left → k ≡ n + i
    → replicate (n + m) true ++ left ≡ set (replicate n true ++ flags) k true
stored-now n i m k flags left h e = sym (set-above n i k flags e ∙ ap (λ t. replicate n true ++ t) h ∙ stored-join n m (n + m) left refl)
