-- The bytes of one entry more.
use Rattle.std.proofs.Common.{◌≡◌, ◌<◌, ◌+◌, ℕ, suc, zero, List, [], ◌∷◌, ◌++◌, ap, sym, ◌∙◌, append_assoc, take, get_or, length, arith}
use Rattle.std.proofs.lemmas.List.{append-nil, take_more}
use Rattle.ld_msg.specs.declared.msg.Entry.{Entry}
use Rattle.ld_msg.specs.Bounds.{IsShort, AreEntries}
use Rattle.ld_fields.specs.Items.{entry_bytes, entries_bytes}

entries_bytes-append : (es : List Entry) (e : Entry) → entries_bytes (es ++ e ∷ []) ≡ entries_bytes es ++ entry_bytes e
entries_bytes-append [] e = append-nil (entry_bytes e)
entries_bytes-append (f ∷ es) e = ap (λ r. entry_bytes f ++ r) (entries_bytes-append es e) ∙ sym (append_assoc (entry_bytes f) (entries_bytes es) (entry_bytes e))

pub entries_bytes-more : (es : List Entry) (i : ℕ) (e : Entry) (old : List ℕ) → i < length es → e ≡ get_or es i e → (old ++ entries_bytes (take i es)) ++ entry_bytes e ≡ old ++ entries_bytes (take (i + 1) es)
entries_bytes-more es i e old h g = append_assoc old (entries_bytes (take i es)) (entry_bytes e)
    ∙ ap (λ r. old ++ r) (sym (entries_bytes-append (take i es) e) ∙ ap entries_bytes (ap (λ x. take i es ++ x ∷ []) g ∙ sym (take_more es i e h)))

pub short_at : (es : List Entry) (i : ℕ) (d : Entry) → AreEntries es → i < length es → IsShort (get_or es i d).what
short_at [] i d h l = absurd (omega arith)
short_at (e ∷ es) zero d h l = h.0.short
short_at (e ∷ es) (suc i) d h l = short_at es i d h.1 (omega arith)
