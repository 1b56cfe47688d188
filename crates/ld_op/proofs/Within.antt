-- A walk over an index that looks for a payload past an end.
use Rattle.std.proofs.Common.{◌≡◌, ◌+◌, ◌==◌, ◌&&◌, ◌||◌, ℕ, suc, zero, Bool, true, false, cond, List, [], ◌∷◌, Option, Some, None, nat_le, nat_lt, refl, ap, sym, ◌∙◌, arith}
use Rattle.std.proofs.lemmas.Bool.Decides.{nat_tests}
use Rattle.ld_table.specs.Words.{numbers_from}
use Rattle.ld_msg.specs.declared.msg.Entry.{Entry}
use Rattle.ld_op.specs.Plain.{Log}
use Rattle.ld_op.specs.Places.{filled, filled_one}
use Rattle.ld_op.specs.Room.{Held, there_of}
use Rattle.ld_op.specs.Within.{places_within, entries_within, logs_within, entry_within, log_within}

module _ (end : ℕ) where
  -- so many offsets side by side
  pub numbers_within : (at n : ℕ) → places_within end (numbers_from at n) ≡ ((n == 0) || nat_le (at + n) end)
  numbers_within at zero = refl
  numbers_within at (suc zero) = grind (arith, nat_tests)
  numbers_within at (suc (suc n)) = let rest = numbers_within (at + 1) (suc n) in ap (λ b. nat_lt at end && b) rest ∙ grind (arith, nat_tests)

  -- ---- one item more ----

  entry_more : (k : ℕ) (o : Option Entry) (m : List (ℕ × Entry)) → entries_within end (filled_one k o m) ≡ (entry_within end o && entries_within end m)
  entry_more k None m = refl
  entry_more k (Some e) m = refl

  pub entries_on : (s : ℕ × Option Entry) (before after : List (ℕ × Option Entry)) → before ≡ s ∷ after → entries_within end (filled before) ≡ (entry_within end s.1 && entries_within end (filled after))
  unfolding filled
  entries_on s before after b = ap (λ m. entries_within end (filled m)) b ∙ entry_more s.0 s.1 (filled after)

  log_more : (k : ℕ) (h : Held) (m : List (ℕ × Log)) (b : Bool) → logs_within end (filled_one k (cond b (Some h.log) None) m) ≡ (cond b (entries_within end h.log.entries) true && logs_within end m)
  log_more k h m true = refl
  log_more k h m false = refl

  pub logs_on : (s : ℕ × Held) (before after : List (ℕ × Held)) → before ≡ s ∷ after → logs_within end (there_of before) ≡ (log_within end s.1 && logs_within end (there_of after))
  unfolding filled
  logs_on s before after b = ap (λ m. logs_within end (there_of m)) b ∙ log_more s.0 s.1 (there_of after) s.1.there

  pub no_entries : (before : List (ℕ × Option Entry)) → before ≡ [] → entries_within end (filled before) ≡ true
  unfolding filled
  no_entries before b = ap (λ m. entries_within end (filled m)) b

  pub no_logs : (before : List (ℕ × Held)) → before ≡ [] → logs_within end (there_of before) ≡ true
  unfolding filled
  no_logs before b = ap (λ m. logs_within end (there_of m)) b

-- ---- a walk ----

-- an item is within: the rest decides
pub goes_on : (one before after all : Bool) → before ≡ (one && after) → one ≡ true → before ≡ all → after ≡ all
goes_on one before after all b o h = sym (b ∙ ap (λ x. x && after) o) ∙ h

-- an item is not: nor are all
pub ends_here : (one before after all : Bool) → before ≡ (one && after) → one ≡ false → before ≡ all → false ≡ all
ends_here one before after all b o h = sym (b ∙ ap (λ x. x && after) o) ∙ h
