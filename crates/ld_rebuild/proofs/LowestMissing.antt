-- The lowest missing number is at least one, whatever the log holds.
use Rattle.std.proofs.Common.{◌≡◌, ℕ, zero, suc, ◌+◌, ◌-◌, ◌≤◌, nat_le, List, [], ◌∷◌, Some, is_none, sym, subst, arith}
use Rattle.std.specs.List.{filter, flat_map, All}
use Rattle.std.proofs.lemmas.Bool.{cond_both}
use Rattle.std.proofs.lemmas.Bool.Decides.{nat_tests}
use Rattle.std.proofs.lemmas.List.Elements.{All-nil, All-cons, All-head, All-append, All-filter}
use Rattle.ld_table.specs.Table.{find}
use Rattle.ld_table.specs.Words.{first, numbers_from}
use Rattle.ld_lsn.specs.Number.{numbered}
use Rattle.ld_msg.specs.declared.msg.Summary.{Summary}
use Rattle.ld_op.specs.Plain.{Log}
use Rattle.ld_op.specs.Ticks.{first_above, numbers_of, missing_of, missing}

numbers_above : (n k : ℕ) → 1 ≤ n → All (λ m. 1 ≤ m) (numbers_from n k)
numbers_above n zero h = All-nil (λ m. 1 ≤ m)
numbers_above n (suc k) h = All-cons (λ m. 1 ≤ m) n (numbers_from (n + 1) k) h (numbers_above (n + 1) k (omega arith))

place_above : (epoch trim : ℕ) → 1 ≤ numbered epoch (first_above epoch trim)
place_above epoch trim = grind (arith, nat_tests)

one_above : (g : Log) (s : ℕ × Summary) → All (λ m. 1 ≤ m) (missing_of g s)
one_above g s = cond_both (nat_le s.0 g.lost_to) (filter (λ n. is_none (find n g.entries)) (numbers_of g s.0 s.1)) [] (All (λ m. 1 ≤ m))
    (λ t. All-filter (λ n. is_none (find n g.entries)) (λ m. 1 ≤ m) (numbers_of g s.0 s.1) (numbers_above (numbered s.0 (first_above s.0 g.trim)) (s.1.end - first_above s.0 g.trim) (place_above s.0 g.trim)))
    (λ t. All-nil (λ m. 1 ≤ m))

all_above : (g : Log) (ss : List (ℕ × Summary)) → All (λ m. 1 ≤ m) (flat_map (missing_of g) ss)
all_above g [] = All-nil (λ m. 1 ≤ m)
all_above g (s ∷ ss) = All-append (λ m. 1 ≤ m) (missing_of g s) (flat_map (missing_of g) ss) (one_above g s) (all_above g ss)

first_of : (ns : List ℕ) (n : ℕ) → All (λ m. 1 ≤ m) ns → Some n ≡ first ns → 1 ≤ n
first_of [] n a e = absurd cc
first_of (m ∷ ns) n a e = let same : n ≡ m = cc in subst (λ k. 1 ≤ k) (sym same) (All-head (λ m. 1 ≤ m) m ns a)

pub lowest_above : (g : Log) (n : ℕ) → Some n ≡ first (missing g) → 1 ≤ n
unfolding missing
lowest_above g n e = first_of (flat_map (missing_of g) g.summaries) n (all_above g g.summaries) e
