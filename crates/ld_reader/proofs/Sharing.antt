-- The nodes of a round of which one alone sends each payload.
use Rattle.std.proofs.Common.{◌≡◌, ℕ, ◌+◌, ◌<◌, ◌≤◌, List, [], ◌∷◌, length, filter, drop, Option, Some, None, Bool, true, false, not, refl, ap, sym, ◌∙◌, arith, IfSome}
use Rattle.std.specs.Prelude.{◌||◌, ◌==◌, if◌then◌else◌}
use Rattle.std.specs.List.{slice_get}
use Rattle.std.proofs.lemmas.Bool.Decides.{nat_tests}
use Rattle.ld_table.specs.Words.{is_in, any_of}
use Rattle.ld_table.proofs.Places.{drop_at_place}
use Rattle.ld_ids.specs.Set.{members, IsSubset}
use Rattle.ld_ids.specs.Id.{IsNode}
use Rattle.ld_msg.specs.declared.msg.Who.TheVariants as whos
use Rattle.ld_msg.specs.Bounds.{share_out, Fits, Is32, Is64, last_reader}
use Rattle.ld_msg.specs.Reader.{Senders, round_ask}
use Rattle.ld_reader.specs.Rounds.{IsShared}

-- what a frame can carry
pub fits_ask : (number y : ℕ) (o : Option Senders) (round from : ℕ) → number ≤ last_reader → IsNode y → Is32 round → 1 ≤ from → Is64 from → IfSome o (λ s. IsShared s.set s.excluded) → Fits (whos.Reader number) (whos.Node y) (round_ask o round from)
fits_ask number y None round from r n k f b s = (r, n, k, tt, f, b)
fits_ask number y (Some o) round from r n k f b s = (r, tt, n, k, f, b, s.subset, s.left, s.set, s.excluded)

or_true : (a b : Bool) → b ≡ true → (a || b) ≡ true
or_true true b e = refl
or_true false b e = e

module _ (p : ℕ → Bool) where
  is_in-filter : (n : ℕ) (xs : List ℕ) → is_in n (filter p xs) ≡ true → (is_in n xs ≡ true) × (p n ≡ true)
  is_in-filter n [] e = absurd cc
  is_in-filter n (x ∷ xs) e = elim (p x) as (λ b. p x ≡ b → is_in n (if b then x ∷ filter p xs else filter p xs) ≡ true → (((x == n) || is_in n xs) ≡ true) × (p n ≡ true)) [
    | true ↦ λ h f. elim (x == n) as (λ b. (x == n) ≡ b → (b || is_in n (filter p xs)) ≡ true → ((b || is_in n xs) ≡ true) × (p n ≡ true)) [
      | true ↦ λ s g. let same : x ≡ n = grind (arith, nat_tests) in (refl, ap p (sym same) ∙ h)
      | false ↦ λ s g. is_in-filter n xs g
    ] refl f
    | false ↦ λ h f. let r = is_in-filter n xs f in (grind (arith, nat_tests, r.0), r.1)
  ] refl e

  not_in : (n : ℕ) (xs : List ℕ) → p n ≡ false → is_in n (filter p xs) ≡ false
  not_in n xs e = elim (is_in n (filter p xs)) as (λ b. is_in n (filter p xs) ≡ b → b ≡ false) [
    | true ↦ λ h. let r : p n ≡ true = (is_in-filter n xs h).1 in absurd (let wrong : true ≡ false = sym r ∙ e in cc)
    | false ↦ λ h. refl
  ] refl

  -- of a list that loses some by a test, one doesn't pass it
  some_left : (q : ℕ → Bool) (xs : List ℕ) → ((n : ℕ) → p n ≡ false → q n ≡ false) → length (filter p xs) < length xs → any_of (λ n. not (q n)) xs ≡ true
  some_left q [] h l = absurd (omega arith)
  some_left q (x ∷ xs) h l = elim (p x) as (λ b. p x ≡ b → length (if b then x ∷ filter p xs else filter p xs) < length (x ∷ xs) → (not (q x) || any_of (λ n. not (q n)) xs) ≡ true) [
    | true ↦ λ e f. or_true (not (q x)) _ (some_left q xs h (omega arith))
    | false ↦ λ e f. ap (λ b. not b || any_of (λ n. not (q n)) xs) (h x e)
  ] refl l

  -- the set without them
  pub shares : (set out : List Bool) → ((n : ℕ) → is_in n (members out) ≡ is_in n (filter p (members set))) → length (filter p (members set)) < length (members set) → IsSubset out set × (share_out out set ≡ true)
  shares set out e l = (
    λ n h. (is_in-filter n (members set) (sym (e n) ∙ h)).0,
    some_left (λ n. is_in n (members out)) (members set) (λ n h. e n ∙ not_in n (members set) h) l,
  )

  -- one place less
  pub one_out : (xs : List ℕ) (i k y : ℕ) → k ≡ i + 1 → slice_get xs i ≡ Some y → p y ≡ true → filter p (drop i xs) ≡ y ∷ filter p (drop k xs)
  one_out xs i k y e s t = ap (filter p) (drop_at_place xs i y s) ∙ ap (λ (b : Bool). if b then y ∷ filter p (drop (i + 1) xs) else filter p (drop (i + 1) xs)) t ∙ ap (λ n. y ∷ filter p (drop n xs)) (sym e)

  pub none_out : (xs : List ℕ) (i k y : ℕ) → k ≡ i + 1 → slice_get xs i ≡ Some y → p y ≡ false → filter p (drop i xs) ≡ filter p (drop k xs)
  none_out xs i k y e s t = ap (filter p) (drop_at_place xs i y s) ∙ ap (λ (b : Bool). if b then y ∷ filter p (drop (i + 1) xs) else filter p (drop (i + 1) xs)) t ∙ ap (λ n. filter p (drop n xs)) (sym e)

pub drop_all : (xs : List ℕ) → drop (length xs) xs ≡ []
drop_all [] = refl
drop_all (x ∷ xs) = drop_all xs

pub one_more : (y n : ℕ) (a b : Bool) → a ≡ b → ((n == y) || a) ≡ ((y == n) || b)
one_more y n a b e = let s : (n == y) ≡ (y == n) = grind (arith, nat_tests) in ap (λ (c : Bool). c || a) s ∙ ap (λ (c : Bool). (y == n) || c) e
