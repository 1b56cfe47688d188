-- What an index that points into a disk's bytes reads there.
use Rattle.std.proofs.Common.{◌≡◌, ◌<◌, ℕ, ◌+◌, List, [], ◌∷◌, ◌++◌, map, length, drop, get_or, refl, sym, ap, ◌∙◌, arith, append_assoc, length-append}
use Rattle.std.proofs.lemmas.List.{drop_more, length-drop, drop-drop}
use Rattle.std.proofs.Math.Seq.{drop-append_seam}
use Rattle.byteorder.specs.Endian.{big_bytes}
use Rattle.byteorder.specs.Numbers.{length-bytes_high_first}
use Rattle.ld_table.specs.Words.{numbers_from}
use Rattle.ld_msg.specs.declared.msg.What.{What}
use Rattle.ld_msg.specs.declared.msg.What.TheVariants.{Rec, Hole, Bridge, Plug, Withheld}
use Rattle.ld_msg.specs.declared.msg.Entry.{Entry}
use Rattle.ld_fields.specs.Items.{what_bytes, entry_bytes, entries_bytes}
use Rattle.ld_op.specs.declared.op.Op.{Op}
use Rattle.ld_op.specs.declared.op.Op.TheVariants as ops
use Rattle.ld_op.specs.Plain.{what_length, entry_length}
use Rattle.ld_op.specs.Bytes.{op_bytes}
use Rattle.ld_op.specs.Cells.{byte_at, each_what, each_entry, each_op, placed_what, placed_entry, placed_entries, placed}

-- these bytes stand at an offset, and others behind them
abbrev Stands : ℕ → List ℕ → List ℕ → List ℕ → Type 0
Stands at piece rest bytes = drop at bytes ≡ piece ++ rest

fixed : (n x : ℕ) → length (big_bytes n x) ≡ n
fixed n x = length-bytes_high_first n x

-- what stands behind the first part of it
past : (at n : ℕ) (xs ys rest bytes : List ℕ) → length xs ≡ n → Stands at (xs ++ ys) rest bytes → Stands (at + n) ys rest bytes
past at n xs ys rest bytes long is =
    sym (drop-drop n at bytes) ∙ (ap (drop n) (is ∙ append_assoc xs ys rest) ∙ (ap (λ k. drop k (xs ++ (ys ++ rest))) (sym long) ∙ drop-append_seam xs (ys ++ rest)))

field_past : (at n x : ℕ) (ys rest bytes : List ℕ) → Stands at (big_bytes n x ++ ys) rest bytes → Stands (at + n) ys rest bytes
field_past at n x ys rest bytes is = past at n (big_bytes n x) ys rest bytes (fixed n x) is

there : (at x : ℕ) (xs bytes : List ℕ) → drop at bytes ≡ x ∷ xs → at < length bytes
there at x xs bytes is = omega (arith, ap length is, length-drop at bytes)

pub payload_read : (at : ℕ) (p rest bytes : List ℕ) → Stands at p rest bytes → map (byte_at bytes) (numbers_from at (length p)) ≡ p
payload_read at [] rest bytes is = refl
payload_read at (x ∷ p) rest bytes is =
    let both : get_or bytes at 0 ∷ drop (at + 1) bytes ≡ x ∷ (p ++ rest) = sym (drop_more bytes at 0 (there at x (p ++ rest) bytes is)) ∙ is in
    let head : get_or bytes at 0 ≡ x = cc both in
    let tail : drop (at + 1) bytes ≡ p ++ rest = cc both in
    (λ i. head i ∷ payload_read (at + 1) p rest bytes tail i)

what_read : (at : ℕ) (w : What) (rest bytes : List ℕ) → Stands at (what_bytes w) rest bytes → each_what (byte_at bytes) (placed_what (at + 1) w) ≡ w
what_read at (Rec p) rest bytes is =
    ap Rec (payload_read (at + 1 + 2) p rest bytes (field_past (at + 1) 2 (length p) p rest bytes (field_past at 1 0 (big_bytes 2 (length p) ++ p) rest bytes is)))
what_read at Hole rest bytes is = refl
what_read at Bridge rest bytes is = refl
what_read at Plug rest bytes is = refl
what_read at Withheld rest bytes is = refl

entry_read : (at : ℕ) (e : Entry) (rest bytes : List ℕ) → Stands at (entry_bytes e) rest bytes → each_entry (byte_at bytes) (placed_entry at e) ≡ e
entry_read at e rest bytes is =
    let here : Stands (at + 8 + 4) (what_bytes e.what) rest bytes = field_past (at + 8) 4 e.ballot (what_bytes e.what) rest bytes (field_past at 8 e.number (big_bytes 4 e.ballot ++ what_bytes e.what) rest bytes is) in
    let place : at + 8 + 4 + 1 ≡ at + 13 = omega arith in
    ap (λ w. record { number = e.number; ballot = e.ballot; what = w }) (ap (λ k. each_what (byte_at bytes) (placed_what k e.what)) (sym place) ∙ what_read (at + 8 + 4) e.what rest bytes here)

what_long : (w : What) → length (what_bytes w) ≡ 1 + what_length w
what_long (Rec p) = omega (arith, length-append (big_bytes 1 0) (big_bytes 2 (length p) ++ p), length-append (big_bytes 2 (length p)) p, fixed 1 0, fixed 2 (length p))
what_long Hole = fixed 1 1
what_long Bridge = fixed 1 2
what_long Plug = fixed 1 3
what_long Withheld = fixed 1 4

entry_long : (e : Entry) → length (entry_bytes e) ≡ entry_length e
entry_long e = omega (arith, length-append (big_bytes 8 e.number) (big_bytes 4 e.ballot ++ what_bytes e.what), length-append (big_bytes 4 e.ballot) (what_bytes e.what), fixed 8 e.number, fixed 4 e.ballot, what_long e.what)

entries_read : (at : ℕ) (es : List Entry) (rest bytes : List ℕ) → Stands at (entries_bytes es) rest bytes → map (each_entry (byte_at bytes)) (placed_entries at es) ≡ es
entries_read at [] rest bytes is = refl
entries_read at (e ∷ es) rest bytes is =
    let first = entry_read at e (entries_bytes es ++ rest) bytes (is ∙ append_assoc (entry_bytes e) (entries_bytes es) rest) in
    let later = entries_read (at + entry_length e) es rest bytes (past at (entry_length e) (entry_bytes e) (entries_bytes es) rest bytes (entry_long e) is) in
    (λ i. first i ∷ later i)

-- an op whose body stands there is read as it was written
pub op_read : (at : ℕ) (o : Op) (rest bytes : List ℕ) → Stands at (op_bytes o) rest bytes → each_op (byte_at bytes) (placed at o) ≡ o
unfolding op_bytes
op_read at (ops.Accept l lng e) rest bytes is =
    let here : Stands (at + 1 + 4 + 4) (entry_bytes e) rest bytes = field_past (at + 1 + 4) 4 lng (entry_bytes e) rest bytes (field_past (at + 1) 4 l (big_bytes 4 lng ++ entry_bytes e) rest bytes (field_past at 1 2 (big_bytes 4 l ++ (big_bytes 4 lng ++ entry_bytes e)) rest bytes is)) in
    let place : at + 1 + 4 + 4 ≡ at + 9 = omega arith in
    ap (ops.Accept l lng) (ap (λ k. each_entry (byte_at bytes) (placed_entry k e)) (sym place) ∙ entry_read (at + 1 + 4 + 4) e rest bytes here)
op_read at (ops.Refill l es) rest bytes is =
    let here : Stands (at + 1 + 4 + 2) (entries_bytes es) rest bytes = field_past (at + 1 + 4) 2 (length es) (entries_bytes es) rest bytes (field_past (at + 1) 4 l (big_bytes 2 (length es) ++ entries_bytes es) rest bytes (field_past at 1 6 (big_bytes 4 l ++ (big_bytes 2 (length es) ++ entries_bytes es)) rest bytes is)) in
    let place : at + 1 + 4 + 2 ≡ at + 7 = omega arith in
    ap (ops.Refill l) (ap (λ k. map (each_entry (byte_at bytes)) (placed_entries k es)) (sym place) ∙ entries_read (at + 1 + 4 + 2) es rest bytes here)
op_read at (ops.Format generation epochs) rest bytes is = refl
op_read at (ops.Seal l b) rest bytes is = refl
op_read at (ops.Clean l epoch y) rest bytes is = refl
op_read at (ops.Trim l t) rest bytes is = refl
op_read at (ops.Refilled l) rest bytes is = refl
