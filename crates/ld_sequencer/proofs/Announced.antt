-- How many messages, from the first one on, tell of a close or of the released number.
use Rattle.std.proofs.Common.{◌≡◌, ◌≤◌, ◌∙◌, ℕ, suc, ◌+◌, Bool, true, false, List, [], ◌∷◌, length, drop, Some, refl, ap, sym, cond, slice_get, arith}
use Rattle.std.proofs.lemmas.List.{drop_all}
use Rattle.ld_table.proofs.Places.{drop_at_place}
use Rattle.ld_msg.specs.declared.msg.Msg.{Msg}
use Rattle.ld_sequencer.specs.Announcing.{tells, told_first}

at_place : (ms : List Msg) (i : ℕ) (m : Msg) → slice_get ms i ≡ Some m → told_first (drop i ms) ≡ cond (tells m.body) (suc (told_first (drop (i + 1) ms))) 0
at_place ms i m e = ap told_first (drop_at_place ms i m e)

-- one more does
pub told_on : (ms : List Msg) (i : ℕ) (m : Msg) → slice_get ms i ≡ Some m → tells m.body ≡ true → told_first ms ≡ i + told_first (drop i ms) → told_first ms ≡ (i + 1) + told_first (drop (i + 1) ms)
told_on ms i m e t h = let a : told_first (drop i ms) ≡ suc (told_first (drop (i + 1) ms)) = at_place ms i m e ∙ ap (λ b. cond b (suc (told_first (drop (i + 1) ms))) 0) t in omega arith

-- this one doesn't
pub told_up_to : (ms : List Msg) (i : ℕ) (m : Msg) → slice_get ms i ≡ Some m → tells m.body ≡ false → told_first ms ≡ i + told_first (drop i ms) → i ≡ told_first ms
told_up_to ms i m e t h = let a : told_first (drop i ms) ≡ 0 = at_place ms i m e ∙ ap (λ b. cond b (suc (told_first (drop (i + 1) ms))) 0) t in omega arith

-- all do
pub told_all : (ms : List Msg) (i : ℕ) → i ≡ length ms → told_first ms ≡ i + told_first (drop i ms) → i ≡ told_first ms
told_all ms i e h = let a : told_first (drop i ms) ≡ 0 = ap told_first (drop_all i ms (omega arith)) in omega arith

pub ruleset told_rules = (told_on, told_up_to, told_all)

-- there are no more than all
within_one : (b : Bool) (n m : ℕ) → n ≤ m → cond b (suc n) 0 ≤ suc m
within_one true n m h = omega arith
within_one false n m h = omega arith

pub told_within : (ms : List Msg) → told_first ms ≤ length ms
told_within [] = omega arith
told_within (m ∷ ms) = within_one (tells m.body) (told_first ms) (length ms) (told_within ms)
