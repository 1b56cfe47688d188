-- Ops with the places of their payloads.
use Rattle.std.proofs.Common.{◌≡◌, ℕ, ◌+◌, ◌≤◌, List, [], ◌∷◌, ◌++◌, take, drop, Option, true, refl, sym, ap, ◌∙◌, arith, append_assoc}
use Rattle.std.proofs.lemmas.List.{take-append-drop}
use Rattle.ld_msg.specs.declared.msg.Entry.{Entry}
use Rattle.ld_op.specs.declared.op.Op.{Op}
use Rattle.ld_op.specs.declared.op.Op.TheVariants as ops
use Rattle.ld_op.specs.Plain.{entry_length, entries_length}
use Rattle.ld_op.specs.Places.{has_place}
use Rattle.ld_op.specs.Room.{log_named, have_places}
use Rattle.ld_op.proofs.HavePlaces.{has_place-within}
use Rattle.ld_op.specs.Cells.{placed, placed_entry, placed_entries}

pub named_same : (at : ℕ) (o : Op) → log_named (placed at o) ≡ log_named o
named_same at (ops.Format generation epochs) = refl
named_same at (ops.Accept l lng e) = refl
named_same at (ops.Seal l b) = refl
named_same at (ops.Clean l epoch y) = refl
named_same at (ops.Trim l t) = refl
named_same at (ops.Refill l es) = refl
named_same at (ops.Refilled l) = refl

pub placed_push : (at : ℕ) (es : List Entry) (e : Entry) → placed_entries at (es ++ e ∷ []) ≡ placed_entries at es ++ placed_entry (at + entries_length es) e ∷ []
placed_push at [] e = ap (λ k. placed_entry k e ∷ []) (omega arith)
placed_push at (f ∷ es) e = ap (λ m. placed_entry at f ∷ m) (placed_push (at + entry_length f) es e ∙ ap (λ k. placed_entries (at + entry_length f) es ++ placed_entry k e ∷ []) (omega arith))

pub long_push : (es : List Entry) (e : Entry) → entries_length (es ++ e ∷ []) ≡ entries_length es + entry_length e
long_push [] e = omega arith
long_push (f ∷ es) e = omega (arith, long_push es e)

long_append : (xs ys : List Entry) → entries_length (xs ++ ys) ≡ entries_length xs + entries_length ys
long_append [] ys = omega arith
long_append (x ∷ xs) ys = omega (arith, long_append xs ys)

-- an entry among some takes no more than all of them
pub one_fits : (es : List Entry) (i : ℕ) (e : Entry) → take (i + 1) es ≡ take i es ++ e ∷ [] → entries_length (take i es) + entry_length e ≤ entries_length es
one_fits es i e is =
    let whole = ap entries_length (take-append-drop (i + 1) es) in
    omega (arith, whole, long_append (take (i + 1) es) (drop (i + 1) es), ap entries_length is, long_push (take i es) e)

pub has_at : (es : List Entry) (i : ℕ) (e : Entry) (m : List (ℕ × Option Entry)) → take (i + 1) es ≡ take i es ++ e ∷ [] → have_places es m ≡ true → has_place e.number m ≡ true
has_at es i e m is have =
    let split : take i es ++ e ∷ drop (i + 1) es ≡ es = sym (append_assoc (take i es) (e ∷ []) (drop (i + 1) es)) ∙ (ap (λ xs. xs ++ drop (i + 1) es) (sym is) ∙ take-append-drop (i + 1) es) in
    has_place-within (take i es) (drop (i + 1) es) e m (ap (λ xs. have_places xs m) split ∙ have)
