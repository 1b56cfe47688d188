-- Of two slots that were read the one that counts is the one that the bytes tell.
use Rattle.std.proofs.Common.{◌≡◌, ◌≢◌, ◌⊎◌, inl, inr, refl, ⊎_elim, ℕ, ◌+◌, ◌<◌, ◌^◌, ◌==◌, nat_lt, not, ◌||◌, ◌&&◌, Bool, true, false, List, [], ◌∷◌, length, take, drop, None, Some, sym, ◌∙◌, ap, arith, length-append, append-nil, if◌then◌else◌}
use Rattle.std.proofs.lemmas.Bool.{lt-ltb}
use Rattle.std.proofs.lemmas.Bool.Decides.{nat_tests}
use Rattle.std.proofs.lemmas.List.{drop_at}
use Rattle.byteorder.specs.Endian.{big_bytes, big_from}
use Rattle.byteorder.specs.Numbers.{big_number-reads_back, length-bytes_high_first}
use Rattle.ld_segment.specs.declared.slots.Slot.{Slot}
use Rattle.ld_segment.specs.Stays.{StandsAt}
use Rattle.ld_segment.specs.Slots.{says_bytes, current, IsSlotAt, Tells, IsTold}

stands_same : (at : ℕ) (p q bytes : List ℕ) → length p ≡ length q → StandsAt at p bytes → StandsAt at q bytes → p ≡ q
stands_same at p q bytes long first second = sym first ∙ ap (λ (k : ℕ). take k (drop at bytes)) long ∙ second

pub gate_same : (at g h : ℕ) (bytes : List ℕ) → StandsAt at (g ∷ []) bytes → StandsAt at (h ∷ []) bytes → g ≡ h
gate_same at g h bytes first second = let both : g ∷ [] ≡ h ∷ [] = stands_same at (g ∷ []) (h ∷ []) bytes refl first second in cc both

pub says_long : (n p : ℕ) → length (says_bytes n p) ≡ 16
says_long n p = omega (arith, length-append (big_bytes 8 n) (big_bytes 8 p), length-bytes_high_first 8 n, length-bytes_high_first 8 p)

pub says_same : (at n p m q : ℕ) (bytes : List ℕ) → StandsAt at (says_bytes n p) bytes → StandsAt at (says_bytes m q) bytes → says_bytes n p ≡ says_bytes m q
says_same at n p m q bytes first second = stands_same at (says_bytes n p) (says_bytes m q) bytes (says_long n p ∙ sym (says_long m q)) first second

pub number_of : (n p m q : ℕ) → n < 256 ^ 8 → m < 256 ^ 8 → says_bytes n p ≡ says_bytes m q → n ≡ m
number_of n p m q fits_n fits_m same = sym (big_number-reads_back 8 n (big_bytes 8 p) fits_n) ∙ ap (λ (l : List ℕ). big_from 0 8 l) same ∙ big_number-reads_back 8 m (big_bytes 8 q) fits_m

pub place_of : (n p m q : ℕ) → p < 256 ^ 8 → q < 256 ^ 8 → says_bytes n p ≡ says_bytes m q → p ≡ q
place_of n p m q fits_p fits_q same =
    let behind : big_bytes 8 p ≡ big_bytes 8 q =
    sym (drop_at (big_bytes 8 n) (big_bytes 8 p) 8 (length-bytes_high_first 8 n)) ∙ ap (λ (l : List ℕ). drop 8 l) same ∙ drop_at (big_bytes 8 m) (big_bytes 8 q) 8 (length-bytes_high_first 8 m) in
    sym (back p fits_p) ∙ ap (λ (l : List ℕ). big_from 0 8 l) behind ∙ back q fits_q
  where
    back : (x : ℕ) → x < 256 ^ 8 → big_from 0 8 (big_bytes 8 x) ≡ x
    back x fits = ap (λ (l : List ℕ). big_from 0 8 l) (sym (append-nil (big_bytes 8 x))) ∙ big_number-reads_back 8 x [] fits

-- by the tests
first_by : (one two : Slot) → one.open ≡ true → (two.open ≡ false) ⊎ (two.number < one.number) → current one two ≡ Some one
first_by one two open_one other = by one.open two.open (nat_lt one.number two.number) open_one (⊎_elim (λ shut. inl shut) (λ less. inr (lesser less)) other)
  where
    lesser : two.number < one.number → nat_lt one.number two.number ≡ false
    lesser less = grind (arith, nat_tests)

    by : (a b c : Bool) → a ≡ true → (b ≡ false) ⊎ (c ≡ false) → (if b && (not a || c) then Some two else if a then Some one else None) ≡ Some one
    by false b c is rest = absurd (cc is)
    by true false c is rest = refl
    by true true false is rest = refl
    by true true true is rest = ⊎_elim (λ shut. absurd (cc shut)) (λ less. absurd (cc less)) rest

second_by : (one two : Slot) → two.open ≡ true → (one.open ≡ false) ⊎ (one.number < two.number) → current one two ≡ Some two
second_by one two open_two other = by one.open two.open (nat_lt one.number two.number) open_two (⊎_elim (λ shut. inl shut) (λ less. inr (lt-ltb one.number two.number less)) other)
  where
    by : (a b c : Bool) → b ≡ true → (a ≡ false) ⊎ (c ≡ true) → (if b && (not a || c) then Some two else if a then Some one else None) ≡ Some two
    by a false c is rest = absurd (cc is)
    by false true c is rest = refl
    by true true true is rest = refl
    by true true false is rest = ⊎_elim (λ shut. absurd (cc shut)) (λ less. absurd (cc less)) rest

pub shut_gate : (g : ℕ) → g ≢ 1 → (g == 1) ≡ false
shut_gate g other = grind (arith, nat_tests)

pub told : (this_at other_at number place : ℕ) (this other : Slot) (bytes : List ℕ) → Tells this_at other_at number place bytes → IsSlotAt this_at this bytes → IsSlotAt other_at other bytes
    → this.number < 2 ^ 64 → this.place < 2 ^ 64 → other.number < 2 ^ 64 → number < 2 ^ 64 → place < 2 ^ 64 → IsTold this other number place
told this_at other_at number place this other bytes tells here there fits_1 fits_2 fits_3 fits_4 fits_5 =
    let says = says_same (this_at + 1) this.number this.place number place bytes here.is.says_there tells.slot.says_there in
    let number_is = number_of this.number this.place number place fits_1 fits_4 says in
    let open_this : this.open ≡ true = here.open_is ∙ ap (λ g. g == 1) (gate_same this_at here.gate 1 bytes here.is.gate_there tells.slot.gate_there) in
    let rest : (other.open ≡ false) ⊎ (other.number < this.number) = ⊎_elim
    (λ shut. inl (there.open_is ∙ ap (λ g. g == 1) (gate_same other_at there.gate shut.gate bytes there.is.gate_there shut.there) ∙ shut_gate shut.gate shut.shut))
    (λ less.
    let same = number_of other.number other.place less.number less.place fits_3 (omega (arith, less.lesser, fits_4)) (says_same (other_at + 1) other.number other.place less.number less.place bytes there.is.says_there less.slot.says_there) in
    inr (omega (arith, same, less.lesser, number_is)))
    tells.rest in
    record {
      first = first_by this other open_this rest;
      second = second_by other this open_this rest;
      number_is = number_is;
      place_is = place_of this.number this.place number place fits_2 fits_5 says;
    }
