-- Numbers, their epochs and offsets.
use Rattle.std.proofs.Common.{inl, inr, ◌≡◌, ◌≤◌, ◌<◌, ℕ, ◌-◌, ◌/◌, ◌^◌, refl, Bool, true, false, ◌&&◌, ◌==◌, nat_lt, arith}
use Rattle.std.proofs.lemmas.Bool.{cond_both, and_parts, and_cases, eqb-true, eqb-false, ltb-true, ltb-false}
use Rattle.ld_lsn.specs.Number.{epoch_of, esn_of, numbered, home_epoch, home_esn, is_epoch_end}
use Rattle.ld_msg.specs.Bounds.{Is64}

pub epoch_numbered : (e k : ℕ) → k < 2 ^ 32 → epoch_of (numbered e k) ≡ e
epoch_numbered e k h = omega arith

pub esn_numbered : (e k : ℕ) → k < 2 ^ 32 → esn_of (numbered e k) ≡ k
esn_numbered e k h = omega arith

pub numbered_bound : (e k : ℕ) → e ≤ 2 ^ 32 - 1 → k < 2 ^ 32 → Is64 (numbered e k)
numbered_bound e k h i = omega arith

-- a number whose epoch may be handed out
pub number_bound : (n : ℕ) → epoch_of n ≤ 2 ^ 32 - 2 → Is64 n
number_bound n h = omega arith

pub epoch_bound : (n : ℕ) → Is64 n → epoch_of n ≤ 2 ^ 32 - 1
epoch_bound n h = omega arith

pub number_from_one : (n : ℕ) → 1 ≤ esn_of n → 1 ≤ n
number_from_one n h = omega arith

-- the epoch that a number belongs to is that of the number before it
pub home_is : (v : ℕ) → 1 ≤ v → home_epoch v ≡ (v - 1) / 2 ^ 32
home_is v h = cond_both ((esn_of v == 0) && nat_lt 0 (epoch_of v)) (epoch_of v - 1) (epoch_of v) (λ x. x ≡ (v - 1) / 2 ^ 32)
    (λ t. let p = and_parts (esn_of v == 0) (nat_lt 0 (epoch_of v)) t in let a = eqb-true (esn_of v) 0 p.0 in let b = ltb-true 0 (epoch_of v) p.1 in omega arith)
    (λ t. elim (and_cases (esn_of v == 0) (nat_lt 0 (epoch_of v)) t) [
      | inl a ↦ (let b = eqb-false (esn_of v) 0 a in omega arith)
      | inr a ↦ (let b = ltb-false 0 (epoch_of v) a in omega arith)
    ])

pub home_at_most : (v : ℕ) → home_epoch v ≤ epoch_of v
home_at_most v = cond_both (is_epoch_end v) (epoch_of v - 1) (epoch_of v) (λ x. x ≤ epoch_of v) (λ t. omega arith) (λ t. omega arith)

-- between two numbers of an epoch are only its numbers
pub home_between : (a n b : ℕ) → 1 ≤ a → a ≤ n → n ≤ b → home_epoch a ≡ home_epoch b → home_epoch a ≡ home_epoch n
home_between a n b h i j e = let p = home_is a h in let q = home_is n (omega arith) in let r = home_is b (omega arith) in omega arith

pub home_of_place : (v : ℕ) → 1 ≤ esn_of v → home_epoch v ≡ epoch_of v
home_of_place v h = let p = home_is v (omega arith) in omega arith

-- an offset below 2 ^ 32 that is not an epoch's end
pub home_esn_is : (v : ℕ) → home_esn v < 2 ^ 32 → (home_epoch v ≡ epoch_of v) × (home_esn v ≡ esn_of v)
home_esn_is v = cond_both_two (is_epoch_end v) refl where
  cond_both_two : (b : Bool) → is_epoch_end v ≡ b → home_esn v < 2 ^ 32 → (home_epoch v ≡ epoch_of v) × (home_esn v ≡ esn_of v)
  cond_both_two true h l = absurd (let q = home_end h in omega arith) where
    home_end : is_epoch_end v ≡ true → home_esn v ≡ 2 ^ 32
    home_end h = rw h refl
  cond_both_two false h l = (rw h refl, rw h refl)
