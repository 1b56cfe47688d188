-- Lists, counts and cases of tests.
use Rattle.std.proofs.Common.{◌≡◌, ◌∙◌, ◌⊎◌, ◌||◌, ◌&&◌, ℕ, zero, suc, max, ◌+◌, ◌<◌, ◌≤◌, inl, inr, refl, ap, sym, subst, Bool, true, false, cond, List, [], ◌∷◌, ◌++◌, map, length, Option, Some, None, is_some, filter_map, arith, slice_get}
use Rattle.std.proofs.lemmas.List.Elements.{filter_map-append}
use Rattle.std.proofs.lemmas.Bool.{cases_Bool, cases_lt, or_left, or_right, or_from}
use Rattle.ld_table.specs.Words.{how_many, any_of, all_of, first, or_else}
use Rattle.ld_machine.specs.World.{In}

pub In-append : {X : Type 0} (x : X) (xs ys : List X) → In x (xs ++ ys) → In x xs ⊎ In x ys
In-append x [] ys h = inr h
In-append x (y ∷ xs) ys (inl e) = inl (inl e)
In-append x (y ∷ xs) ys (inr h) = elim (In-append x xs ys h) [ inl a ↦ inl (inr a) | inr b ↦ inr b ]

pub In_left : {X : Type 0} (x : X) (xs ys : List X) → In x xs → In x (xs ++ ys)
In_left x [] ys h = absurd h
In_left x (y ∷ xs) ys (inl e) = inl e
In_left x (y ∷ xs) ys (inr h) = inr (In_left x xs ys h)

pub In_right : {X : Type 0} (x : X) (xs ys : List X) → In x ys → In x (xs ++ ys)
In_right x [] ys h = h
In_right x (y ∷ xs) ys h = inr (In_right x xs ys h)

pub In-map : {X Y : Type 0} (f : X → Y) (y : Y) (xs : List X) → In y (map f xs) → (x : X) × In x xs × (y ≡ f x)
In-map f y [] h = absurd h
In-map f y (x ∷ xs) (inl e) = (x, inl refl, e)
In-map f y (x ∷ xs) (inr h) = let r = In-map f y xs h in (r.0, inr r.1, r.2)

pub In-slice_get : {X : Type 0} (x : X) (xs : List X) (i : ℕ) → slice_get xs i ≡ Some x → In x xs
In-slice_get x [] i h = absurd (cc)
In-slice_get x (y ∷ xs) zero h = inl (cc)
In-slice_get x (y ∷ xs) (suc i) h = inr (In-slice_get x xs i h)

pub slice_get-In : {X : Type 0} (x : X) (xs : List X) → In x xs → (i : ℕ) × (slice_get xs i ≡ Some x)
slice_get-In x [] h = absurd h
slice_get-In x (y ∷ xs) (inl e) = (zero, ap Some (sym e))
slice_get-In x (y ∷ xs) (inr h) = let r = slice_get-In x xs h in (suc r.0, r.1)

pub slice_get_left : {X : Type 0} (x : X) (xs ys : List X) (i : ℕ) → slice_get xs i ≡ Some x → slice_get (xs ++ ys) i ≡ Some x
slice_get_left x [] ys i h = absurd cc
slice_get_left x (y ∷ xs) ys zero h = h
slice_get_left x (y ∷ xs) ys (suc i) h = slice_get_left x xs ys i h

-- an offset of a list with one more at its end
pub slice_get_end : {X : Type 0} (x y : X) (xs : List X) (i : ℕ) → slice_get (xs ++ y ∷ []) i ≡ Some x → (slice_get xs i ≡ Some x) ⊎ ((i ≡ length xs) × (x ≡ y))
slice_get_end x y [] zero h = inr (refl, cc)
slice_get_end x y [] (suc i) h = absurd cc
slice_get_end x y (z ∷ xs) zero h = inl h
slice_get_end x y (z ∷ xs) (suc i) h = elim (slice_get_end x y xs i h) [ inl a ↦ inl a | inr a ↦ inr (ap suc a.0, a.1) ]

pub slice_get_below : {X : Type 0} (x : X) (xs : List X) (i : ℕ) → slice_get xs i ≡ Some x → i < length xs
slice_get_below x [] i h = absurd cc
slice_get_below x (y ∷ xs) zero h = omega arith
slice_get_below x (y ∷ xs) (suc i) h = let r = slice_get_below x xs i h in omega arith

pub slice_get_last : {X : Type 0} (x : X) (xs ys : List X) → slice_get (xs ++ x ∷ ys) (length xs) ≡ Some x
slice_get_last x [] ys = refl
slice_get_last x (z ∷ xs) ys = slice_get_last x xs ys

pub only : {X : Type 0} (x y : X) → In x (y ∷ []) → x ≡ y
only x y (inl e) = e
only x y (inr h) = absurd h

pub Some_inj : {X : Type 0} {x y : X} → Some x ≡ Some y → x ≡ y
Some_inj h = cc

pub not_none : {X : Type 0} {x : X} → None ≡ Some x → ⊥
not_none h = cc

pub of_some : {X : Type 0} (o : Option X) → is_some o ≡ true → (x : X) × (o ≡ Some x)
of_some None h = absurd cc
of_some (Some x) h = (x, refl)

pub not_both : (b : Bool) → b ≡ true → b ≡ false → ⊥
not_both b p q = cc

-- which way a test went
pub branch : {X : Type 0} (b : Bool) (x y z : X) → cond b x y ≡ z → ((b ≡ true) × (x ≡ z)) ⊎ ((b ≡ false) × (y ≡ z))
branch true x y z h = inl (refl, h)
branch false x y z h = inr (refl, h)

-- what holds of both ways of a test
pub cond_both : {X : Type 0} (b : Bool) (x y : X) (P : X → Type 0) → (b ≡ true → P x) → (b ≡ false → P y) → P (cond b x y)
cond_both true x y P h g = h refl
cond_both false x y P h g = g refl

-- what holds of two numbers holds of the greater one
pub max_both : (P : ℕ → Type 0) (a b : ℕ) → P a → P b → P (max a b)
max_both P a b x y = elim (cases_lt a b) [
  | inl e ↦ subst P (let z : b ≡ max a b = omega arith in z) y
  | inr e ↦ subst P (let z : a ≡ max a b = omega arith in z) x
]

pub how_many-yes : {X : Type 0} (p : X → Bool) (x : X) (xs : List X) → p x ≡ true → how_many p (x ∷ xs) ≡ suc (how_many p xs)
how_many-yes p x xs h = rw h refl

pub how_many-no : {X : Type 0} (p : X → Bool) (x : X) (xs : List X) → p x ≡ false → how_many p (x ∷ xs) ≡ how_many p xs
how_many-no p x xs h = rw h refl

-- two tests that together pass more members than there are share one
pub count_share : {X : Type 0} (p q : X → Bool) (xs : List X) → length xs < how_many p xs + how_many q xs → (x : X) × In x xs × (p x ≡ true) × (q x ≡ true)
count_share p q [] h = absurd (omega arith)
count_share p q (x ∷ xs) h = elim (cases_Bool (p x)) [
  | inl a ↦ elim (cases_Bool (q x)) [
    | inl b ↦ (x, inl refl, a, b)
    | inr b ↦ let r = count_share p q xs (omega (arith, how_many-yes p x xs a, how_many-no q x xs b)) in (r.0, inr r.1, r.2, r.3)
  ]
  | inr a ↦ let r = count_share p q xs (elim (cases_Bool (q x)) [
    | inl b ↦ omega (arith, how_many-no p x xs a, how_many-yes q x xs b)
    | inr b ↦ omega (arith, how_many-no p x xs a, how_many-no q x xs b)
  ]) in (r.0, inr r.1, r.2, r.3)
]

-- a test that is weaker on the members passes at least as many of them
pub count_mono : {X : Type 0} (p q : X → Bool) (xs : List X) → ((x : X) → In x xs → p x ≡ true → q x ≡ true) → how_many p xs ≤ how_many q xs
count_mono p q [] h = omega arith
count_mono p q (x ∷ xs) h = let ih : how_many p xs ≤ how_many q xs = count_mono p q xs (λ y i. h y (inr i)) in elim (cases_Bool (p x)) [
  | inl a ↦ omega (arith, how_many-yes p x xs a, how_many-yes q x xs (h x (inl refl) a))
  | inr a ↦ elim (cases_Bool (q x)) [
    | inl b ↦ omega (arith, how_many-no p x xs a, how_many-yes q x xs b)
    | inr b ↦ omega (arith, how_many-no p x xs a, how_many-no q x xs b)
  ]
]

-- a member that passes, or none does
pub some_or_none : {X : Type 0} (q : X → Bool) (xs : List X) → ((x : X) × In x xs × (q x ≡ true)) ⊎ (how_many q xs ≡ 0)
some_or_none q [] = inr refl
some_or_none q (x ∷ xs) = elim (cases_Bool (q x)) [
  | inl t ↦ inl (x, inl refl, t)
  | inr f ↦ elim (some_or_none q xs) [ inl a ↦ inl (a.0, inr a.1, a.2) | inr a ↦ inr (how_many-no q x xs f ∙ a) ]
]

pub count_or : {X : Type 0} (p q : X → Bool) (xs : List X) → how_many (λ x. p x || q x) xs ≤ how_many p xs + how_many q xs
count_or p q [] = omega arith
count_or p q (x ∷ xs) = let ih : how_many (λ x. p x || q x) xs ≤ how_many p xs + how_many q xs = count_or p q xs in
    elim (cases_Bool (p x)) [
      | inl a ↦ elim (cases_Bool (q x)) [
        | inl b ↦ omega (arith, how_many-yes p x xs a, how_many-yes q x xs b, how_many-yes (λ x. p x || q x) x xs (or_left (p x) (q x) a))
        | inr b ↦ omega (arith, how_many-yes p x xs a, how_many-no q x xs b, how_many-yes (λ x. p x || q x) x xs (or_left (p x) (q x) a))
      ]
      | inr a ↦ elim (cases_Bool (q x)) [
        | inl b ↦ omega (arith, how_many-no p x xs a, how_many-yes q x xs b, how_many-yes (λ x. p x || q x) x xs (or_right (p x) (q x) b))
        | inr b ↦ omega (arith, how_many-no p x xs a, how_many-no q x xs b, how_many-no (λ x. p x || q x) x xs (or_from (p x) (q x) a b))
      ]
    ]

-- all or any of a list
pub any_from : {X : Type 0} (p : X → Bool) (x : X) (xs : List X) → In x xs → p x ≡ true → any_of p xs ≡ true
any_from p x [] i h = absurd i
any_from p x (y ∷ xs) (inl e) h = or_left (p y) _ (subst (λ z. p z ≡ true) e h)
any_from p x (y ∷ xs) (inr i) h = or_right (p y) _ (any_from p x xs i h)

pub any_in : {X : Type 0} (p : X → Bool) (xs : List X) → any_of p xs ≡ true → (x : X) × In x xs × (p x ≡ true)
any_in p [] h = absurd cc
any_in p (y ∷ xs) h = elim (cases_Bool (p y)) [
  | inl a ↦ (y, inl refl, a)
  | inr a ↦ let r = any_in p xs (subst (λ b. b || any_of p xs ≡ true) a h) in (r.0, inr r.1, r.2)
]

pub all_in : {X : Type 0} (p : X → Bool) (x : X) (xs : List X) → all_of p xs ≡ true → In x xs → p x ≡ true
all_in p x [] h i = absurd i
all_in p x (y ∷ xs) h (inl e) = elim (cases_Bool (p y)) [ inl a ↦ subst (λ z. p z ≡ true) (sym e) a | inr a ↦ absurd (let g = subst (λ b. b && all_of p xs ≡ true) a h in cc) ]
all_in p x (y ∷ xs) h (inr i) = elim (cases_Bool (p y)) [ inl a ↦ all_in p x xs (subst (λ b. b && all_of p xs ≡ true) a h) i | inr a ↦ absurd (let g = subst (λ b. b && all_of p xs ≡ true) a h in cc) ]

-- ---- the first that is read from a list ----

first-append : {X : Type 0} (xs ys : List X) → first (xs ++ ys) ≡ or_else (first xs) (first ys)
first-append [] ys = refl
first-append (x ∷ xs) ys = refl

first_one : {X Y : Type 0} (f : X → Option Y) (x : X) (o : Option Y) → f x ≡ o → first (filter_map f (x ∷ [])) ≡ o
first_one f x None e = rw e refl
first_one f x (Some y) e = rw e refl

pub first_grows : {X Y : Type 0} (f : X → Option Y) (xs : List X) (x : X) → first (filter_map f (xs ++ x ∷ [])) ≡ or_else (first (filter_map f xs)) (f x)
first_grows f xs x = ap first (filter_map-append f xs (x ∷ [])) ∙ (first-append (filter_map f xs) (filter_map f (x ∷ [])) ∙ ap (or_else (first (filter_map f xs))) (first_one f x (f x) refl))

pub or_else_some : {X : Type 0} (o p : Option X) (x : X) → o ≡ Some x → or_else o p ≡ Some x
or_else_some None p x h = absurd cc
or_else_some (Some y) p x h = h

pub or_else_none : {X : Type 0} (o p : Option X) → o ≡ None → p ≡ None → or_else o p ≡ None
or_else_none None p h g = g
or_else_none (Some y) p h g = absurd cc

pub or_else_new : {X : Type 0} (o p : Option X) → o ≡ None → or_else o p ≡ p
or_else_new None p h = refl
or_else_new (Some y) p h = absurd cc

pub first_left : {X Y : Type 0} (f : X → Option Y) (xs ys : List X) (y : Y) → first (filter_map f xs) ≡ Some y → first (filter_map f (xs ++ ys)) ≡ Some y
first_left f xs ys y h = ap first (filter_map-append f xs ys) ∙ (first-append (filter_map f xs) (filter_map f ys) ∙ or_else_some (first (filter_map f xs)) (first (filter_map f ys)) y h)
