-- How long a Base's body is.
use Rattle.std.proofs.Common.{◌≡◌, ℕ, ◌+◌, ◌*◌, List, [], ◌∷◌, ◌++◌, length, arith, length-append}
use Rattle.byteorder.specs.Endian.{big_bytes}
use Rattle.byteorder.specs.Numbers.{length-bytes_high_first}
use Rattle.ld_msg.specs.declared.msg.What.{What}
use Rattle.ld_msg.specs.declared.msg.What.TheVariants.{Rec, Hole, Bridge, Plug, Withheld}
use Rattle.ld_msg.specs.declared.msg.Entry.{Entry}
use Rattle.ld_msg.specs.declared.msg.Summary.{Summary}
use Rattle.ld_fields.specs.Items.{older_summary_bytes, summary_bytes, flag}
use Rattle.ld_op.specs.Plain.{Plain, Log}
use Rattle.ld_layout.specs.Layout.{based_length, entries_based, log_based, logs_based, base_length}
use Rattle.ld_op.specs.Indexed.{first_place, what_based, entry_based, entries_bytes_based, summaries_based, lngs_based, state_based, tables_based, logs_bytes_based, index_bytes}
use Rattle.ld_layout.specs.Base.{areas_based, base_bytes}

fixed : (n x : ℕ) → length (big_bytes n x) ≡ n
fixed n x = length-bytes_high_first n x

-- a field of so many bytes in front
field_long : (n x m : ℕ) (rest : List ℕ) → length rest ≡ m → length (big_bytes n x ++ rest) ≡ n + m
field_long n x m rest long = omega (arith, length-append (big_bytes n x) rest, fixed n x, long)

both_long : (m n : ℕ) (front rest : List ℕ) → length front ≡ m → length rest ≡ n → length (front ++ rest) ≡ m + n
both_long m n front rest long short = omega (arith, length-append front rest, long, short)

what_long : (w : What) → 12 + length (what_based w) ≡ based_length w
what_long (Rec p) = omega (arith, field_long 1 0 10 (big_bytes 8 (first_place p) ++ big_bytes 2 (length p)) (field_long 8 (first_place p) 2 (big_bytes 2 (length p)) (fixed 2 (length p))))
what_long Hole = omega (arith, fixed 1 1)
what_long Bridge = omega (arith, fixed 1 2)
what_long Plug = omega (arith, fixed 1 3)
what_long Withheld = omega (arith, fixed 1 4)

entry_long : (e : Entry) → length (entry_based e) ≡ based_length e.what
entry_long e =
    let rest = what_based e.what in
    omega (arith, what_long e.what, length-append (big_bytes 8 e.number) (big_bytes 4 e.ballot ++ rest), length-append (big_bytes 4 e.ballot) rest, fixed 8 e.number, fixed 4 e.ballot)

entries_long : (es : List (ℕ × Entry)) → length (entries_bytes_based es) ≡ entries_based es
entries_long [] = omega arith
entries_long (e ∷ es) = both_long (based_length e.1.what) (entries_based es) (entry_based e.1) (entries_bytes_based es) (entry_long e.1) (entries_long es)

summary_long : (s : Summary) → length (summary_bytes s) ≡ 21
summary_long s =
    let older : length (older_summary_bytes s) ≡ 20 = field_long 4 s.ballot 16 (big_bytes 4 s.lng ++ (big_bytes 8 s.trim ++ big_bytes 4 s.end)) (field_long 4 s.lng 12 (big_bytes 8 s.trim ++ big_bytes 4 s.end) (field_long 8 s.trim 4 (big_bytes 4 s.end) (fixed 4 s.end))) in
    both_long 20 1 (older_summary_bytes s) (big_bytes 1 (flag s.loss)) older (fixed 1 (flag s.loss))

summaries_long : (ss : List (ℕ × Summary)) → length (summaries_based ss) ≡ 25 * length ss
summaries_long [] = omega arith
summaries_long (s ∷ ss) =
    let rest = summaries_long ss in
    omega (arith, rest, length-append (big_bytes 4 s.0) (summary_bytes s.1 ++ summaries_based ss), length-append (summary_bytes s.1) (summaries_based ss), fixed 4 s.0, summary_long s.1)

lngs_long : (gs : List (ℕ × ℕ)) → length (lngs_based gs) ≡ 8 * length gs
lngs_long [] = omega arith
lngs_long (g ∷ gs) = omega (arith, lngs_long gs, length-append (big_bytes 4 g.0) (big_bytes 4 g.1 ++ lngs_based gs), length-append (big_bytes 4 g.1) (lngs_based gs), fixed 4 g.0, fixed 4 g.1)

pub areas_long : (areas : List (ℕ × ℕ)) → length (areas_based areas) ≡ 16 * length areas
areas_long [] = omega arith
areas_long (a ∷ areas) = omega (arith, areas_long areas, length-append (big_bytes 8 a.0) (big_bytes 8 a.1 ++ areas_based areas), length-append (big_bytes 8 a.1) (areas_based areas), fixed 8 a.0, fixed 8 a.1)

state_long : (l : ℕ) (g : Log) → length (state_based l g) ≡ 21
state_long l g =
    field_long 4 l 17 (big_bytes 4 g.sealed ++ (big_bytes 8 g.trim ++ (big_bytes 1 (flag g.lost) ++ big_bytes 4 g.lost_to)))
    (field_long 4 g.sealed 13 (big_bytes 8 g.trim ++ (big_bytes 1 (flag g.lost) ++ big_bytes 4 g.lost_to))
    (field_long 8 g.trim 5 (big_bytes 1 (flag g.lost) ++ big_bytes 4 g.lost_to) (field_long 1 (flag g.lost) 4 (big_bytes 4 g.lost_to) (fixed 4 g.lost_to))))

tables_long : (g : Log) → 21 + length (tables_based g) ≡ log_based g
tables_long g =
    let one = field_long 4 (length g.summaries) (25 * length g.summaries) (summaries_based g.summaries) (summaries_long g.summaries) in
    let two = field_long 4 (length g.lngs) (8 * length g.lngs) (lngs_based g.lngs) (lngs_long g.lngs) in
    let three = field_long 4 (length g.entries) (entries_based g.entries) (entries_bytes_based g.entries) (entries_long g.entries) in
    let later = both_long (4 + 8 * length g.lngs) (4 + entries_based g.entries) (big_bytes 4 (length g.lngs) ++ lngs_based g.lngs) (big_bytes 4 (length g.entries) ++ entries_bytes_based g.entries) two three in
    let all = both_long (4 + 25 * length g.summaries) (4 + 8 * length g.lngs + (4 + entries_based g.entries)) (big_bytes 4 (length g.summaries) ++ summaries_based g.summaries)
    ((big_bytes 4 (length g.lngs) ++ lngs_based g.lngs) ++ (big_bytes 4 (length g.entries) ++ entries_bytes_based g.entries)) one later in
    omega (arith, all)

logs_long : (ls : List (ℕ × Log)) → length (logs_bytes_based ls) ≡ logs_based ls
logs_long [] = omega arith
logs_long (l ∷ ls) =
    omega (arith, logs_long ls, length-append (state_based l.0 l.1) (tables_based l.1 ++ logs_bytes_based ls), length-append (tables_based l.1) (logs_bytes_based ls), state_long l.0 l.1, tables_long l.1)

pub base_long : (kind : ℕ) (p : Plain) (areas : List (ℕ × ℕ)) → length (base_bytes kind p areas) ≡ base_length p areas
unfolding base_bytes index_bytes
base_long kind p areas =
    let tail = big_bytes 4 (length areas) ++ areas_based areas in
    let tail_long = field_long 4 (length areas) (16 * length areas) (areas_based areas) (areas_long areas) in
    let index = big_bytes 4 p.generation ++ (big_bytes 2 (length p.logs) ++ logs_bytes_based p.logs) in
    let index_long = field_long 4 p.generation (2 + logs_based p.logs) (big_bytes 2 (length p.logs) ++ logs_bytes_based p.logs) (field_long 2 (length p.logs) (logs_based p.logs) (logs_bytes_based p.logs) (logs_long p.logs)) in
    omega (arith, field_long 1 kind (6 + logs_based p.logs + (4 + 16 * length areas)) (index ++ tail) (both_long (6 + logs_based p.logs) (4 + 16 * length areas) index tail (omega (arith, index_long)) tail_long))
