-- The slot that counts is one, and says one thing.
use Rattle.std.proofs.Common.{◌≡◌, ◌⊎◌, ⊎_elim, ℕ, ◌+◌, ◌<◌, ◌^◌, List, sym, ◌∙◌, subst, arith}
use Rattle.ld_segment.specs.Slots.{IsSlot, IsShut, IsLesser, Tells}
use Rattle.ld_segment.specs.Lies.{Slots, ArePlacedAt}
use Rattle.ld_segment.proofs.CurrentSlots.{gate_same, says_same, number_of, place_of}

abbrev SameTwo : ℕ → ℕ → ℕ → ℕ → Type 0
SameTwo n p m q = (n ≡ m) × (p ≡ q)

said_once : (at n p m q g h : ℕ) (bytes : List ℕ) → IsSlot at g n p bytes → IsSlot at h m q bytes → n < 2 ^ 64 → p < 2 ^ 64 → m < 2 ^ 64 → q < 2 ^ 64 → SameTwo n p m q
said_once at n p m q g h bytes here there fits_n fits_p fits_m fits_q =
    let says = says_same (at + 1) n p m q bytes here.says_there there.says_there in (number_of n p m q fits_n fits_m says, place_of n p m q fits_p fits_q says)

number_once : (at n p m q g h : ℕ) (bytes : List ℕ) → IsSlot at g n p bytes → IsSlot at h m q bytes → n < 2 ^ 64 → m < 2 ^ 64 → n ≡ m
number_once at n p m q g h bytes here there fits_n fits_m = number_of n p m q fits_n fits_m (says_same (at + 1) n p m q bytes here.says_there there.says_there)

-- a slot that is open isn't the one that doesn't count, unless its number is lesser
less_open : (at n p than : ℕ) (bytes : List ℕ) → IsSlot at 1 n p bytes → IsShut at bytes ⊎ IsLesser at than bytes → n < 2 ^ 64 → than < 2 ^ 64 → n < than
less_open at n p than bytes here rest fits_n fits = ⊎_elim
    (λ shut. absurd (shut.shut (gate_same at shut.gate 1 bytes shut.there here.gate_there)))
    (λ less. (let same = number_once at n p less.number less.place 1 less.gate bytes here less.slot fits_n (omega (arith, less.lesser, fits)) in omega (arith, same, less.lesser)))
    rest

-- and it names one segment
pub told_once : (head n p m q : ℕ) (z x : Slots) (bytes : List ℕ) → ArePlacedAt head z → ArePlacedAt head x → Tells z.this z.other n p bytes → Tells x.this x.other m q bytes → n < 2 ^ 64 → p < 2 ^ 64 → m < 2 ^ 64 → q < 2 ^ 64 → SameTwo z.this z.other x.this x.other × SameTwo n p m q
told_once head n p m q z x bytes at_z at_x here there fits_n fits_p fits_m fits_q = ⊎_elim
    (λ one. ⊎_elim (λ two. same (one.0 ∙ sym two.0) (one.1 ∙ sym two.1)) (λ two. crossed (one.0 ∙ sym two.1) (one.1 ∙ sym two.0)) at_x)
    (λ one. ⊎_elim (λ two. crossed (one.0 ∙ sym two.1) (one.1 ∙ sym two.0)) (λ two. same (one.0 ∙ sym two.0) (one.1 ∙ sym two.1)) at_x)
    at_z
  where
    same : z.this ≡ x.this → z.other ≡ x.other → SameTwo z.this z.other x.this x.other × SameTwo n p m q
    same is rest = ((is, rest), said_once x.this n p m q 1 1 bytes (subst (λ k. IsSlot k 1 n p bytes) is here.slot) there.slot fits_n fits_p fits_m fits_q)

    crossed : z.this ≡ x.other → z.other ≡ x.this → SameTwo z.this z.other x.this x.other × SameTwo n p m q
    crossed this other =
        let one = less_open x.other n p m bytes (subst (λ k. IsSlot k 1 n p bytes) this here.slot) there.rest fits_n fits_m in
        let two = less_open z.other m q n bytes (subst (λ k. IsSlot k 1 m q bytes) (sym other) there.slot) here.rest fits_m fits_n in
        absurd (omega (arith, one, two))
