-- The missing ones of a page's entries.
use Rattle.std.proofs.Common.{◌≡◌, ℕ, ◌+◌, ◌<◌, Bool, true, false, List, [], ◌∷◌, ◌++◌, length, drop, get_or, Option, Some, None, if◌then◌else◌, map, refl, ap, sym, ◌∙◌, append_assoc, arith}
use Rattle.std.specs.List.{filter}
use Rattle.ld_table.specs.Table.{find}
use Rattle.ld_table.proofs.Places.{drop_item}
use Rattle.ld_lsn.specs.Number.{epoch_of}
use Rattle.ld_msg.specs.declared.msg.Entry.{Entry}
use Rattle.ld_msg.specs.declared.msg.Summary.{Summary}
use Rattle.ld_op.specs.Plain.{Log}
use Rattle.ld_op.specs.Ticks.{lacking, is_missing, is_below_end, as_closed, ballot_of}
use Rattle.ld_rebuild.specs.Lacks.{closing_of}

abbrev pub closed_with : Entry → Summary → Entry
closed_with e y = record { number = e.number; ballot = y.ballot; what = e.what }

-- the entries behind one
rest_lacking : Log → Entry → List Entry → Bool → List Entry
rest_lacking g e es b = map (as_closed g) (if b then e ∷ filter (λ f. is_missing g f.number) es else filter (λ f. is_missing g f.number) es)

one_missing : (g : Log) (e : Entry) (es : List Entry) (y : Summary) (b : Bool) → is_missing g e.number ≡ b → (if b then find (epoch_of e.number) g.summaries else None) ≡ Some y → lacking g (e ∷ es) ≡ closed_with e y ∷ lacking g es
unfolding rest_lacking
one_missing g e es y true m h = ap (rest_lacking g e es) m ∙ ap (λ (o : Option Summary). record { number = e.number; ballot = ballot_of e.ballot o; what = e.what } ∷ lacking g es) h
one_missing g e es y false m h = absurd cc

ballot_kept : (b : ℕ) (o : Option Summary) → o ≡ None → b ≡ ballot_of b o
ballot_kept b None h = refl
ballot_kept b (Some y) h = absurd cc

abbrev IsClosed : Log → ℕ → Type 0
IsClosed g s = is_missing g s ≡ true → find (epoch_of s) g.summaries ≡ None → ⊥

none_missing : (g : Log) (e : Entry) (es : List Entry) (b : Bool) → IsClosed g e.number → is_missing g e.number ≡ b → (if b then find (epoch_of e.number) g.summaries else None) ≡ None → lacking g (e ∷ es) ≡ lacking g es
unfolding rest_lacking
none_missing g e es true c m h = absurd (c m h)
none_missing g e es false c m h = ap (rest_lacking g e es) m

closed_if : (g : Log) (s : ℕ) → IsClosed g s
unfolding is_missing
closed_if g s m h = let k = ap (λ o. is_below_end s o) h in absurd (grind (arith, k, m))

-- an entry more is taken
pub takes_one : (g : Log) (es : List Entry) (i : ℕ) (e : Entry) (y : Summary) (taken : List Entry) → i < length es → e ≡ get_or es i e → closing_of g e.number ≡ Some y → (taken ++ closed_with e y ∷ []) ++ lacking g (drop (i + 1) es) ≡ taken ++ lacking g (drop i es)
takes_one g es i e y taken l s h = append_assoc taken _ _ ∙ ap (λ r. taken ++ r) (sym (ap (lacking g) (drop_item es i e l s) ∙ one_missing g e (drop (i + 1) es) y (is_missing g e.number) refl h))

-- an entry is left out
pub leaves_one : (g : Log) (es : List Entry) (i : ℕ) (e : Entry) → i < length es → e ≡ get_or es i e → closing_of g e.number ≡ None → lacking g (drop (i + 1) es) ≡ lacking g (drop i es)
leaves_one g es i e l s h = sym (ap (lacking g) (drop_item es i e l s) ∙ none_missing g e (drop (i + 1) es) (is_missing g e.number) (closed_if g e.number) refl h)
