-- Of two slots that were read, which one the bytes tell.
use Rattle.std.proofs.Common.{◌≡◌, ◌≢◌, ◌⊎◌, inl, inr, ⊎_elim, refl, ℕ, ◌+◌, ◌<◌, ◌^◌, ◌==◌, nat_lt, not, ◌||◌, ◌&&◌, List, Option, None, Some, Bool, true, false, sym, ◌∙◌, ap, subst, arith}
use Rattle.std.specs.Prelude.{IfSome}
use Rattle.std.proofs.lemmas.Bool.{lt-ltb, ltb-true}
use Rattle.std.proofs.lemmas.Bool.Decides.{nat_tests}
use Rattle.ld_segment.specs.declared.slots.Slot.{Slot}
use Rattle.ld_segment.specs.Slots.{second_counts, IsSlot, IsSlotAt, IsShut, IsLesser, Tells}
use Rattle.ld_segment.specs.Lies.{IsOther}
use Rattle.ld_segment.specs.Found.{IsFound, IsNoneTold}
use Rattle.ld_segment.proofs.CurrentSlots.{gate_same, says_same, number_of, shut_gate}

is_one : (g : ℕ) → (g == 1) ≡ true → g ≡ 1
is_one g is = grind (arith, nat_tests)

not_one : (g : ℕ) → (g == 1) ≡ false → g ≢ 1
not_one g is = λ same. grind (arith, nat_tests)

both_true : (a b : Bool) → (a && b) ≡ true → (a ≡ true) × (b ≡ true)
both_true true b is = (refl, is)
both_true false b is = absurd (cc is)

-- the second of two that were read counts, so the bytes tell it
module _ (a b : ℕ) (one two : Slot) (bytes : List ℕ) (here : IsSlotAt a one bytes) (there : IsSlotAt b two bytes) (counts : second_counts one two ≡ true) where
  open_is : two.open ≡ true
  open_is = (both_true two.open (not one.open || nat_lt one.number two.number) counts).0

  rest_by : (t : Bool) → one.open ≡ t → (not t || nat_lt one.number two.number) ≡ true → IsOther t a two.number bytes
  rest_by true is less = record { gate = here.gate; number = one.number; place = one.place; slot = here.is; lesser = ltb-true one.number two.number less }
  rest_by false is less = record { gate = here.gate; there = here.is.gate_there; shut = not_one here.gate (sym here.open_is ∙ is) }

  either_by : (t : Bool) → IsOther t a two.number bytes → IsShut a bytes ⊎ IsLesser a two.number bytes
  either_by true less = inr less
  either_by false shut = inl shut

  pub other_is : IsOther one.open a two.number bytes
  other_is = rest_by one.open refl (both_true two.open (not one.open || nat_lt one.number two.number) counts).1

  pub tells : Tells b a two.number two.place bytes
  tells = record { slot = subst (λ g. IsSlot b g two.number two.place bytes) (is_one there.gate (sym there.open_is ∙ open_is)) there.is; rest = either_by one.open other_is }

-- what the bytes tell counts, where it was read
counts_by : (a b : Bool) (less : Bool) → b ≡ true → (a ≡ false) ⊎ (less ≡ true) → (b && (not a || less)) ≡ true
counts_by a false less is rest = absurd (cc is)
counts_by false true less is rest = refl
counts_by true true true is rest = refl
counts_by true true false is rest = ⊎_elim (λ shut. absurd (cc shut)) (λ l. absurd (cc l)) rest

told_counts : (a b number place : ℕ) (one two : Slot) (bytes : List ℕ) → Tells b a number place bytes → IsSlotAt a one bytes → IsSlotAt b two bytes → one.number < 2 ^ 64 → two.number < 2 ^ 64 → number < 2 ^ 64 → second_counts one two ≡ true
told_counts a b number place one two bytes told here there fits_1 fits_2 fits =
    let number_is : two.number ≡ number = number_of two.number two.place number place fits_2 fits (says_same (b + 1) two.number two.place number place bytes there.is.says_there told.slot.says_there) in
    let open_two : two.open ≡ true = there.open_is ∙ ap (λ g. g == 1) (gate_same b there.gate 1 bytes there.is.gate_there told.slot.gate_there) in
    let rest : (one.open ≡ false) ⊎ (nat_lt one.number two.number ≡ true) = ⊎_elim
    (λ shut. inl (here.open_is ∙ ap (λ g. g == 1) (gate_same a here.gate shut.gate bytes here.is.gate_there shut.there) ∙ shut_gate shut.gate shut.shut))
    (λ less.
    let same = number_of one.number one.place less.number less.place fits_1 (omega (arith, less.lesser, fits)) (says_same (a + 1) one.number one.place less.number less.place bytes here.is.says_there less.slot.says_there) in
    inr (lt-ltb one.number two.number (omega (arith, same, less.lesser, number_is))))
    told.rest in
    counts_by one.open two.open (nat_lt one.number two.number) open_two rest

-- where neither counts, the bytes tell none
pub none_told : (head : ℕ) (one two : Slot) (bytes : List ℕ) → IsSlotAt head one bytes → IsSlotAt (head + 17) two bytes → one.number < 2 ^ 64 → two.number < 2 ^ 64 → second_counts one two ≡ false → second_counts two one ≡ false → IsNoneTold head bytes
none_told head one two bytes here there fits_1 fits_2 not_two not_one z number place at fits told = ⊎_elim
    (λ p.
    let as_read = subst (λ k. Tells head k number place bytes) p.1 (subst (λ k. Tells k z.other number place bytes) p.0 told) in
    absurd (let both : true ≡ false = sym (told_counts (head + 17) head number place two one bytes as_read there here fits_2 fits_1 fits) ∙ not_one in cc both))
    (λ p.
    let as_read = subst (λ k. Tells (head + 17) k number place bytes) p.1 (subst (λ k. Tells k z.other number place bytes) p.0 told) in
    absurd (let both : true ≡ false = sym (told_counts head (head + 17) number place one two bytes as_read here there fits_1 fits_2 fits) ∙ not_two in cc both))
    at

pub found_second : (head : ℕ) (one two : Slot) (bytes : List ℕ) (r : Bool) → r ≡ second_counts one two → r ≡ true → two.number < 2 ^ 64 → two.place < 2 ^ 64 → IsSlotAt head one bytes → IsSlotAt (head + 17) two bytes
    → IsFound head (record { this = head + 17; other = head; is_open = one.open; number = two.number; place = two.place }) bytes
found_second head one two bytes r same is number place here there =
    let counts = sym same ∙ is in
    record { at = inr (refl, refl); tells = tells head (head + 17) one two bytes here there counts; rest = other_is head (head + 17) one two bytes here there counts; gate = here.gate; gate_there = here.is.gate_there; open_is = here.open_is; number_fits = number; place_fits = place }

pub found_first : (head : ℕ) (one two : Slot) (bytes : List ℕ) (r : Bool) → r ≡ second_counts two one → r ≡ true → one.number < 2 ^ 64 → one.place < 2 ^ 64 → IsSlotAt head one bytes → IsSlotAt (head + 17) two bytes
    → IsFound head (record { this = head; other = head + 17; is_open = two.open; number = one.number; place = one.place }) bytes
found_first head one two bytes r same is number place here there =
    let counts = sym same ∙ is in
    record { at = inl (refl, refl); tells = tells (head + 17) head two one bytes there here counts; rest = other_is (head + 17) head two one bytes there here counts; gate = there.gate; gate_there = there.is.gate_there; open_is = there.open_is; number_fits = number; place_fits = place }

-- ---- of a disk that tells its bytes ----

-- what holds of its bytes by two reads
pub both_read : (told again : Option (List ℕ)) (P Q R : List ℕ → Type 0) → again ≡ told → ((bytes : List ℕ) → P bytes → Q bytes → R bytes) → IfSome told P → IfSome again Q → IfSome told R
both_read None again P Q R same each first second = tt
both_read (Some bytes) again P Q R same each first second = each bytes first (subst (λ o. IfSome o Q) same second)
