-- Grants that compare as equal are equal.
use Rattle.std.proofs.Common.{◌≡◌, ℕ, Bool, true, false, ◌&&◌, ◌==◌, List, [], ◌∷◌, Option, Some, None, refl, ap, ◌∙◌, arith}
use mathlib.Core.Bool.{beq}
use Rattle.std.specs.Option.{option_eq}
use Rattle.std.specs.Cmp.Lexicographic.{pointwise}
use Rattle.std.proofs.lemmas.Bool.Decides.{nat_tests}
use Rattle.ld_ids.specs.declared.set.Spec.{Spec}
use Rattle.ld_register.specs.declared.register.Grant.{Grant}

pub both : (a b : Bool) → (a && b) ≡ true → (a ≡ true) × (b ≡ true)
both true true h = (refl, refl)
both true false h = absurd cc
both false b h = absurd cc

pub and_true : (a b : Bool) → a ≡ true → b ≡ true → (a && b) ≡ true
and_true true true h k = refl
and_true true false h k = absurd cc
and_true false b h k = absurd cc

equal : (x y : ℕ) → (x == y) ≡ true → x ≡ y
equal x y h = grind (arith, nat_tests)

itself : (x : ℕ) → (x == x) ≡ true
itself x = grind (arith, nat_tests)

module _ (E : Spec → Spec → Bool) (decides : (a b : Spec) → E a b ≡ true → a ≡ b) (same : (a : Spec) → E a a ≡ true) where
  option_same : (x y : Option Spec) → option_eq E x y ≡ true → x ≡ y
  option_same None None h = refl
  option_same None (Some b) h = absurd cc
  option_same (Some a) None h = absurd cc
  option_same (Some a) (Some b) h = ap Some (decides a b h)

  option_itself : (x : Option Spec) → option_eq E x x ≡ true
  option_itself None = refl
  option_itself (Some a) = same a

  pub grants_are : (g e : Grant) → ((g.epoch == e.epoch) && ((g.lce == e.lce) && option_eq E g.next e.next)) ≡ true → g ≡ e
  grants_are g e h =
      let p = both (g.epoch == e.epoch) ((g.lce == e.lce) && option_eq E g.next e.next) h in
      let q = both (g.lce == e.lce) (option_eq E g.next e.next) p.1 in
      ap (λ x. record { epoch = x; lce = g.lce; next = g.next }) (equal g.epoch e.epoch p.0)
      ∙ (ap (λ x. record { epoch = e.epoch; lce = x; next = g.next }) (equal g.lce e.lce q.0)
      ∙ ap (λ x. record { epoch = e.epoch; lce = e.lce; next = x }) (option_same g.next e.next q.1))

  pub grant_itself : (g : Grant) → ((g.epoch == g.epoch) && ((g.lce == g.lce) && option_eq E g.next g.next)) ≡ true
  grant_itself g = and_true (g.epoch == g.epoch) ((g.lce == g.lce) && option_eq E g.next g.next) (itself g.epoch) (and_true (g.lce == g.lce) (option_eq E g.next g.next) (itself g.lce) (option_itself g.next))

flag_same : (x y : Bool) → beq x y ≡ true → x ≡ y
flag_same true true h = refl
flag_same true false h = absurd cc
flag_same false true h = absurd cc
flag_same false false h = refl

flag_itself : (x : Bool) → beq x x ≡ true
flag_itself true = refl
flag_itself false = refl

flags_same : (xs ys : List Bool) → pointwise beq xs ys ≡ true → xs ≡ ys
flags_same [] [] h = refl
flags_same [] (y ∷ ys) h = absurd cc
flags_same (x ∷ xs) [] h = absurd cc
flags_same (x ∷ xs) (y ∷ ys) h = let p = both (beq x y) (pointwise beq xs ys) h in ap (λ z. z ∷ xs) (flag_same x y p.0) ∙ ap (λ zs. y ∷ zs) (flags_same xs ys p.1)

flags_itself : (xs : List Bool) → pointwise beq xs xs ≡ true
flags_itself [] = refl
flags_itself (x ∷ xs) = and_true (beq x x) (pointwise beq xs xs) (flag_itself x) (flags_itself xs)

abbrev pub is_same_spec : Spec → Spec → Bool
is_same_spec a b = (a.log == b.log) && (pointwise beq a.set b.set && ((a.r == b.r) && (a.extras == b.extras)))

pub specs_are : (a b : Spec) → is_same_spec a b ≡ true → a ≡ b
specs_are a b h =
    let p = both (a.log == b.log) (pointwise beq a.set b.set && ((a.r == b.r) && (a.extras == b.extras))) h in
    let q = both (pointwise beq a.set b.set) ((a.r == b.r) && (a.extras == b.extras)) p.1 in
    let s = both (a.r == b.r) (a.extras == b.extras) q.1 in
    ap (λ x. record { log = x; set = a.set; r = a.r; extras = a.extras }) (equal a.log b.log p.0)
    ∙ (ap (λ x. record { log = b.log; set = x; r = a.r; extras = a.extras }) (flags_same a.set b.set q.0)
    ∙ (ap (λ x. record { log = b.log; set = b.set; r = x; extras = a.extras }) (equal a.r b.r s.0)
    ∙ ap (λ x. record { log = b.log; set = b.set; r = b.r; extras = x }) (equal a.extras b.extras s.1)))

pub spec_itself : (a : Spec) → is_same_spec a a ≡ true
spec_itself a =
    and_true (a.log == a.log) (pointwise beq a.set a.set && ((a.r == a.r) && (a.extras == a.extras))) (itself a.log)
    (and_true (pointwise beq a.set a.set) ((a.r == a.r) && (a.extras == a.extras)) (flags_itself a.set) (and_true (a.r == a.r) (a.extras == a.extras) (itself a.r) (itself a.extras)))
