-- Two specs that a test says are the same are the same.
use Rattle.std.proofs.Common.{◌≡◌, ◌∙◌, ◌&&◌, ◌==◌, ℕ, List, [], ◌∷◌, Bool, true, false, Option, Some, refl, sym, ap, arith}
use Rattle.std.specs.Prelude.{◌≢◌}
use Rattle.std.proofs.lemmas.Bool.Decides.{nat_tests}
use Rattle.std.proofs.Math.Bool.{beq}
use Rattle.std.specs.Cmp.Lexicographic.{pointwise}
use Rattle.ld_ids.specs.declared.set.Spec.{Spec}

same_flags : (xs ys : List Bool) → pointwise beq xs ys ≡ true → xs ≡ ys
same_flags [] [] h = refl
same_flags [] (y ∷ ys) h = absurd cc
same_flags (x ∷ xs) [] h = absurd cc
same_flags (true ∷ xs) (true ∷ ys) h = ap (λ l. true ∷ l) (same_flags xs ys h)
same_flags (true ∷ xs) (false ∷ ys) h = absurd cc
same_flags (false ∷ xs) (true ∷ ys) h = absurd cc
same_flags (false ∷ xs) (false ∷ ys) h = ap (λ l. false ∷ l) (same_flags xs ys h)

flags_same : (xs : List Bool) → pointwise beq xs xs ≡ true
flags_same [] = refl
flags_same (true ∷ xs) = flags_same xs
flags_same (false ∷ xs) = flags_same xs

first_yes : (a b : Bool) → (a && b) ≡ true → a ≡ true
first_yes true b h = refl
first_yes false b h = absurd cc

second_yes : (a b : Bool) → (a && b) ≡ true → b ≡ true
second_yes true b h = h
second_yes false b h = absurd cc

both_yes : (a b : Bool) → a ≡ true → b ≡ true → (a && b) ≡ true
both_yes a b x y = ap (λ (v : Bool). v && b) x ∙ y

same_number : (m n : ℕ) → (m == n) ≡ true → m ≡ n
same_number m n h = grind (arith, nat_tests)

number_same : (m : ℕ) → (m == m) ≡ true
number_same m = grind arith

-- what a test of two specs says
abbrev pub is_same : Spec → Spec → Bool
is_same a b = (a.log == b.log) && (pointwise beq a.set b.set && ((a.r == b.r) && (a.extras == b.extras)))

spec_of : ℕ → List Bool → ℕ → ℕ → Spec
spec_of log set r extras = record { log = log; set = set; r = r; extras = extras }

fourfold : {A B X : Type 0} (f : A → B → A → A → X) (a b : A) (c d : B) (g h i j : A) → a ≡ b → c ≡ d → g ≡ h → i ≡ j → f a c g i ≡ f b d h j
fourfold f a b c d g h i j e1 e2 e3 e4 = cc

pub same_spec : (a b : Spec) → is_same a b ≡ true → a ≡ b
unfolding spec_of
same_spec a b h =
    let rest = second_yes _ _ h in
    let last = second_yes _ _ rest in
    fourfold spec_of a.log b.log a.set b.set a.r b.r a.extras b.extras
    (same_number a.log b.log (first_yes _ _ h))
    (same_flags a.set b.set (first_yes _ _ rest))
    (same_number a.r b.r (first_yes _ _ last))
    (same_number a.extras b.extras (second_yes _ _ last))

itself : (a : Spec) → is_same a a ≡ true
itself a = both_yes _ _ (number_same a.log) (both_yes _ _ (flags_same a.set) (both_yes _ _ (number_same a.r) (number_same a.extras)))

pub another : (fixed : Option Spec) (from wanted : Spec) → fixed ≡ Some from → is_same from wanted ≡ false → (fixed ≡ Some from) × (from ≢ wanted)
another fixed from wanted is differs = (is, λ same. let e : true ≡ false = sym (itself from) ∙ ap (λ s. is_same from s) same ∙ differs in absurd cc)
