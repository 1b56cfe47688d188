-- How many bytes the tables of an index take.
use Rattle.std.proofs.Common.{◌≡◌, ◌≤◌, ◌+◌, ◌*◌, ◌-◌, ◌^◌, ℕ, Bool, true, false, cond, min, List, [], ◌∷◌, ◌++◌, Option, Some, None, refl, ap, ◌∙◌, length, length-append, arith}
use Rattle.byteorder.specs.Endian.{big_bytes}
use Rattle.byteorder.specs.Numbers.{length-bytes_high_first}
use Rattle.ld_msg.specs.declared.msg.Entry.{Entry}
use Rattle.ld_msg.specs.declared.msg.Summary.{Summary}
use Rattle.ld_op.specs.Plain.{Log}
use Rattle.ld_op.specs.Places.{filled, filled_one}
use Rattle.ld_op.specs.Room.{Held, there_of}
use Rattle.ld_op.specs.Taken.{log_length, entry_length, entries_there}
use Rattle.ld_op.specs.Indexed.{what_based, entries_bytes_based, summaries_based, lngs_based, tables_based, logs_bytes_based, entry_count}
use Rattle.ld_op.proofs.Tables.{entries_of, logs_of}

fixed : (n x : ℕ) → length (big_bytes n x) ≡ n
fixed n x = length-bytes_high_first n x

summaries_long : (ss : List (ℕ × Summary)) → length (summaries_based ss) ≡ 25 * length ss
summaries_long [] = omega arith
summaries_long (s ∷ ss) =
    let rest = summaries_long ss in
    omega (arith, rest)

lngs_long : (gs : List (ℕ × ℕ)) → length (lngs_based gs) ≡ 8 * length gs
lngs_long [] = omega arith
lngs_long (g ∷ gs) = let rest = lngs_long gs in omega (arith, rest)

pub tables_long : (g : Log) → length (tables_based g) ≡ 12 + (25 * length g.summaries + (8 * length g.lngs + length (entries_bytes_based g.entries)))
tables_long g =
    let a = summaries_long g.summaries in
    let b = lngs_long g.lngs in
    omega (
      arith,
      a,
      b,
      length-append (summaries_based g.summaries) ((big_bytes 4 (length g.lngs) ++ lngs_based g.lngs) ++ (big_bytes 4 (length g.entries) ++ entries_bytes_based g.entries)),
      length-append (lngs_based g.lngs) (big_bytes 4 (length g.entries) ++ entries_bytes_based g.entries),
    )

-- ---- one item more ----

entry_more : (k : ℕ) (o : Option Entry) (m : List (ℕ × Entry)) → length (entries_bytes_based (filled_one k o m)) ≡ entry_length o + length (entries_bytes_based m)
entry_more k None m = omega arith
entry_more k (Some e) m = omega (arith, length-append (what_based e.what) (entries_bytes_based m))

pub entries_on : (s : ℕ × Option Entry) (before after : List (ℕ × Option Entry)) → before ≡ s ∷ after → length (entries_of before) ≡ entry_length s.1 + length (entries_of after)
unfolding filled
entries_on s before after b = ap (λ m. length (entries_of m)) b ∙ entry_more s.0 s.1 (filled after)

log_more : (k : ℕ) (h : Held) (m : List (ℕ × Log)) (b : Bool) → h.there ≡ b → length (logs_bytes_based (filled_one k (cond b (Some h.log) None) m)) ≡ cond b (21 + length (tables_based h.log)) 0 + length (logs_bytes_based m)
log_more k h m true e = omega (arith, length-append (tables_based h.log) (logs_bytes_based m))
log_more k h m false e = omega arith

pub logs_on : (s : ℕ × Held) (before after : List (ℕ × Held)) → before ≡ s ∷ after → length (logs_of before) ≡ log_length s.1 + length (logs_of after)
unfolding filled
logs_on s before after b = ap (λ m. length (logs_of m)) b ∙ log_more s.0 s.1 (there_of after) s.1.there refl

count_more : (k : ℕ) (h : Held) (m : List (ℕ × Log)) (b : Bool) → h.there ≡ b → entry_count (filled_one k (cond b (Some h.log) None) m) ≡ cond b (length h.log.entries) 0 + entry_count m
count_more k h m true e = refl
count_more k h m false e = omega arith

pub counts_on : (s : ℕ × Held) (before after : List (ℕ × Held)) → before ≡ s ∷ after → entry_count (there_of before) ≡ entries_there s.1 + entry_count (there_of after)
unfolding filled
counts_on s before after b = ap (λ m. entry_count (there_of m)) b ∙ count_more s.0 s.1 (there_of after) s.1.there refl

-- a sum that stays at the greatest number
pub sum_on : (sum one next before after all most : ℕ) → before ≡ one + after → next ≡ min (sum + one) most → min (sum + before) most ≡ min all most → min (next + after) most ≡ min all most
sum_on sum one next before after all most b n h = omega arith

pub part_on : (sum part one next before after all most : ℕ) → before ≡ one + after → next ≡ min (sum + part) most → part ≡ min one most → min (sum + before) most ≡ min all most → min (next + after) most ≡ min all most
part_on sum part one next before after all most b n p h = omega arith

pub sum_all : (sum before all most : ℕ) → before ≡ 0 → sum ≤ most → min (sum + before) most ≡ min all most → sum ≡ min all most
sum_all sum before all most b l h = omega arith

pub tables_sum : (g : Log) (s l e : ℕ) → s ≡ length g.summaries → l ≡ length g.lngs → e ≡ min (length (entries_bytes_based g.entries)) (2 ^ 64 - 1)
    → min (min (min (min (s * 25) (2 ^ 64 - 1) + min (l * 8) (2 ^ 64 - 1)) (2 ^ 64 - 1) + e) (2 ^ 64 - 1) + 12) (2 ^ 64 - 1) ≡ min (length (tables_based g)) (2 ^ 64 - 1)
tables_sum g s l e a b d = let t = tables_long g in omega arith
