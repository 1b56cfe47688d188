-- Whether one of some offsets lies in an area.
use Rattle.std.proofs.Common.{◌≡◌, ◌<◌, ◌≤◌, ◌+◌, ◌-◌, ◌||◌, ℕ, zero, suc, Bool, true, false, List, [], ◌∷◌, ◌++◌, Result, IfOk, refl, ap, sym, ◌∙◌, subst, length, slice_index, nat_lt, arith}
use Rattle.std.proofs.lemmas.Bool.{or_left, or_right}
use Rattle.std.proofs.lemmas.Bool.Decides.{nat_tests}
use Rattle.std.specs.List.{filter}
use Rattle.ld_table.specs.Words.{any_of}
use Rattle.ld_msg.specs.declared.msg.What.{What}
use Rattle.ld_msg.specs.declared.msg.What.TheVariants.{Rec, Hole, Bridge, Plug, Withheld}
use Rattle.ld_msg.specs.declared.msg.Entry.{Entry}
use Rattle.ld_op.specs.Plain.{Plain, Log}
use Rattle.ld_op.specs.Indexed.{start_of, entry_starts, payload_starts}
use Rattle.ld_layout.specs.Areas.{is_inside}
use Rattle.ld_layout.specs.Layout.{points_into, holds_payload, used}
use Rattle.std.specs.List.{list_any}
use Rattle.std.specs.List.Sorted.{IsNonDecreasing, IsPermutation}
use Rattle.std.proofs.lemmas.List.Sorted.{list_any-IsPermutation}

pub ok_as : {A E : Type 0} (r : Result A E) (x y : A) → x ≡ y → IfOk r (λ a. a ≡ x) → IfOk r (λ a. a ≡ y)
ok_as r x y e h = subst (λ m. IfOk r (λ a. a ≡ m)) e h

or_assoc : (a b c : Bool) → (a || (b || c)) ≡ ((a || b) || c)
or_assoc true b c = refl
or_assoc false b c = refl

module _ {X : Type 0} where
  any_append : (P : X → Bool) (xs ys : List X) → any_of P (xs ++ ys) ≡ (any_of P xs || any_of P ys)
  any_append P [] ys = refl
  any_append P (x ∷ xs) ys = ap (λ b. P x || b) (any_append P xs ys) ∙ or_assoc (P x) (any_of P xs) (any_of P ys)

or_none : (b : Bool) → (b || false) ≡ b
or_none true = refl
or_none false = refl

starts_point : (a : ℕ × ℕ) (w : What) → any_of (λ k. is_inside a k) (start_of w) ≡ points_into a w
starts_point a (Rec []) = refl
starts_point a (Rec (k ∷ ks)) = or_none (is_inside a k)
starts_point a Hole = refl
starts_point a Bridge = refl
starts_point a Plug = refl
starts_point a Withheld = refl

entries_point : (a : ℕ × ℕ) (es : List (ℕ × Entry)) → any_of (λ k. is_inside a k) (entry_starts es) ≡ any_of (λ e. points_into a e.1.what) es
entries_point a [] = refl
entries_point a (e ∷ es) = any_append (λ k. is_inside a k) (start_of e.1.what) (entry_starts es) ∙ (ap (λ b. b || any_of (λ k. is_inside a k) (entry_starts es)) (starts_point a e.1.what) ∙ ap (λ b. points_into a e.1.what || b) (entries_point a es))

pub logs_hold : (a : ℕ × ℕ) (ls : List (ℕ × Log)) → any_of (λ k. is_inside a k) (payload_starts ls) ≡ any_of (holds_payload a) ls
logs_hold a [] = refl
logs_hold a (l ∷ ls) = any_append (λ k. is_inside a k) (entry_starts l.1.entries) (payload_starts ls) ∙ (ap (λ b. b || any_of (λ k. is_inside a k) (payload_starts ls)) (entries_point a l.1.entries) ∙ ap (λ b. holds_payload a l || b) (logs_hold a ls))

alike : (P Q : ℕ × ℕ → Bool) (m : List (ℕ × ℕ)) → ((x : ℕ × ℕ) → P x ≡ Q x) → filter P m ≡ filter Q m
alike P Q [] h = refl
alike P Q (x ∷ m) h = rw (h x, alike P Q m h) refl

pub used_by : (p : Plain) (starts : List ℕ) (areas : List (ℕ × ℕ)) → ((P : ℕ → Bool) → any_of P starts ≡ any_of P (payload_starts p.logs)) → filter (λ a. any_of (λ k. is_inside a k) starts) areas ≡ used p areas
used_by p starts areas h = alike (λ a. any_of (λ k. is_inside a k) starts) (λ a. any_of (holds_payload a) p.logs) areas (λ a. h (λ k. is_inside a k) ∙ logs_hold a p.logs)

any_is : (P : ℕ → Bool) (xs : List ℕ) → any_of P xs ≡ list_any P xs
any_is P [] = refl
any_is P (x ∷ xs) = ap (λ b. P x || b) (any_is P xs)

pub any_shuffled : (P : ℕ → Bool) (xs ys : List ℕ) → IsPermutation xs ys → any_of P ys ≡ any_of P xs
any_shuffled P xs ys h = any_is P ys ∙ (sym (list_any-IsPermutation P xs ys h) ∙ sym (any_is P xs))

-- ---- places that never fall ----

any_true : (P : ℕ → Bool) (xs : List ℕ) (i : ℕ) → i < length xs → P (slice_index xs i) ≡ true → any_of P xs ≡ true
any_true P [] i l h = absurd (omega arith)
any_true P (x ∷ xs) zero l h = or_left (P x) (any_of P xs) h
any_true P (x ∷ xs) (suc i) l h = or_right (P x) (any_of P xs) (any_true P xs i (omega arith) h)

any_false : (P : ℕ → Bool) (xs : List ℕ) → ((i : ℕ) → i < length xs → P (slice_index xs i) ≡ false) → any_of P xs ≡ false
any_false P [] h = refl
any_false P (x ∷ xs) h = ap (λ b. b || any_of P xs) (h zero (omega arith)) ∙ any_false P xs (λ i l. h (suc i) (omega arith))

before_area : (place length k : ℕ) → k < place → is_inside (place, length) k ≡ false
before_area place length k h = grind (arith, nat_tests)

behind_area : (place length k : ℕ) → place + length ≤ k → is_inside (place, length) k ≡ false
behind_area place length k h = grind (arith, nat_tests)

in_area : (place length k : ℕ) → place ≤ k → k < place + length → is_inside (place, length) k ≡ true
in_area place length k h l = grind (arith, nat_tests)

pub none_inside : (xs : List ℕ) (place len : ℕ) → ((k : ℕ) → k < length xs → slice_index xs k < place) → any_of (λ k. is_inside (place, len) k) xs ≡ false
none_inside xs place len h = any_false (λ k. is_inside (place, len) k) xs (λ i l. before_area place len (slice_index xs i) (h i l))

pub first_inside : (xs : List ℕ) (i place len : ℕ) (b : Bool) → i < length xs → IsNonDecreasing xs → ((k : ℕ) → k < i → slice_index xs k < place) → place ≤ slice_index xs i → nat_lt (slice_index xs i - place) len ≡ b → b ≡ any_of (λ k. is_inside (place, len) k) xs
first_inside xs i place len true l rise before here t = sym (any_true (λ k. is_inside (place, len) k) xs i l (in_area place len (slice_index xs i) here (let u : slice_index xs i - place < len = grind (arith, nat_tests) in omega arith)))
first_inside xs i place len false l rise before here t =
    let u : len ≤ slice_index xs i - place = grind (arith, nat_tests) in
    sym (any_false (λ k. is_inside (place, len) k) xs (λ k m. elim (nat_lt k i) as (λ b. nat_lt k i ≡ b → is_inside (place, len) (slice_index xs k) ≡ false) [
      | true ↦ λ e. before_area place len (slice_index xs k) (before k (let w : k < i = grind (arith, nat_tests) in w))
      | false ↦ λ e. behind_area place len (slice_index xs k) (let r = rise i k 0 (let w : i ≤ k = grind (arith, nat_tests) in w) m in omega arith)
    ] refl))
