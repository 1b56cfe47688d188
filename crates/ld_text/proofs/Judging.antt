-- Which lines are the text of no payload.
use Rattle.std.proofs.Common.{◌≡◌, ◌≤◌, ◌<◌, ◌+◌, ℕ, suc, List, [], ◌∷◌, ◌++◌, length, get_or, drop, drop-cons, slice_index, refl, ap, sym, subst, ◌∙◌, arith}
use Rattle.std.specs.Cmp.Lexicographic.{pointwise}
use Rattle.std.specs.Prelude.{◌==◌, true, false}
use Rattle.std.proofs.lemmas.List.{append-nil}
use Rattle.std.proofs.Math.ListN.{drop_of_length-le}
use Rattle.ld_table.specs.Named.{same}
use Rattle.ld_table.proofs.NameLaws.{same-self}
use Rattle.ld_ids.specs.Bytes.{AreBytes}
use Rattle.ld_text.specs.declared.reading.At.{At}
use Rattle.std.specs.Prelude.{Err}
use Rattle.ld_text.specs.declared.fault.TextFault.{TextFault}
use Rattle.ld_text.specs.declared.fault.TextFault.TheVariants.{Bad, NoMemory}
use Rattle.ld_text.specs.Text.{text_of, bytes_from, bytes_in}
use Rattle.ld_text.specs.Reading.{IsTooGreat, IsStep, IsNoText}
use Rattle.ld_text.proofs.Turning.{text_again}

at_seam : (front rest : List ℕ) (x : ℕ) → slice_index (front ++ (x ∷ rest)) (length front) ≡ x
at_seam [] rest x = refl
at_seam (b ∷ front) rest x = at_seam front rest x

-- a payload is what its text spells
again : (payload line : List ℕ) → line ≡ text_of payload → bytes_in line ≡ payload
again payload line is = subst (λ l. bytes_in l ≡ payload) (sym is) (text_again (length payload) payload)

-- a line that spells a number too great for a byte is the text of none
no_payload : (line front spelled payload : List ℕ) → front ++ spelled ≡ bytes_in line → IsTooGreat spelled → AreBytes payload → line ≡ text_of payload → ⊥
no_payload line front spelled payload reads great bytes is =
    let whole : payload ≡ front ++ (great.first ∷ great.rest) = sym (again payload line is) ∙ sym reads ∙ ap (λ xs. front ++ xs) great.is in
    let less : slice_index (front ++ (great.first ∷ great.rest)) (length front) < 256 = subst (λ p. slice_index p (length front) < 256) whole (bytes (length front)) in
    let first : great.first < 256 = subst (λ n. n < 256) (at_seam front great.rest great.first) less in
    let most = great.great in
    absurd (omega (arith, first, most))

stops : (line front payload : List ℕ) (at : At) (i : ℕ) → i < length line → front ++ bytes_from at (drop i line) ≡ bytes_in line → ((text : List ℕ) → IsTooGreat (bytes_from at (get_or line i 0 ∷ text))) → AreBytes payload → line ≡ text_of payload → ⊥
stops line front payload at i less reads great bytes is =
    let here : front ++ bytes_from at (get_or line i 0 ∷ drop (suc i) line) ≡ bytes_in line = subst (λ l. front ++ bytes_from at l ≡ bytes_in line) (drop-cons line i 0 less) reads in
    no_payload line front (bytes_from at (get_or line i 0 ∷ drop (suc i) line)) payload here (great (drop (suc i) line)) bytes is

pub refused : (line front new : List ℕ) (at : At) (i : ℕ) (fault : TextFault) → i < length line → front ++ bytes_from at (drop i line) ≡ bytes_in line → IsStep at (get_or line i 0) front new (Err fault) → IsNoText line fault
refused line front new at i (Bad place) less reads step = λ payload bytes is. stops line front payload at i less reads step.0 bytes is
refused line front new at i NoMemory less reads step = tt

pub goes_on : (line front new : List ℕ) (at next : At) (i : ℕ) → i < length line → front ++ bytes_from at (drop i line) ≡ bytes_in line → ((text : List ℕ) → front ++ bytes_from at (get_or line i 0 ∷ text) ≡ new ++ bytes_from next text) → new ++ bytes_from next (drop (i + 1) line) ≡ bytes_in line
goes_on line front new at next i less reads on =
    let e : suc i ≡ i + 1 = omega arith in
    subst (λ n. new ++ bytes_from next (drop n line) ≡ bytes_in line) e (sym (on (drop (suc i) line)) ∙ subst (λ l. front ++ bytes_from at l ≡ bytes_in line) (drop-cons line i 0 less) reads)

pub read_all : (line bytes : List ℕ) (at : At) (i : ℕ) → length line ≤ i → bytes ++ bytes_from at (drop i line) ≡ bytes_in line → bytes ≡ bytes_in line
unfolding bytes_from
read_all line bytes at i most reads = sym (append-nil bytes) ∙ subst (λ l. bytes ++ bytes_from at l ≡ bytes_in line) (drop_of_length-le line most) reads

-- a line that isn't the text of the bytes that it spells is that of none
pub differs : (line bytes text payload : List ℕ) → bytes ≡ bytes_in line → text ≡ text_of bytes → (text ≡ line → ⊥) → line ≡ text_of payload → ⊥
differs line bytes text payload spells is other same =
    other (is ∙ ap text_of (spells ∙ again payload line same) ∙ sym same)

-- a text that was found to be another one
pub found_other : (line text : List ℕ) → false ≡ pointwise ◌==◌ text line → text ≡ line → ⊥
unfolding same
found_other line text found is =
    let no_more : false ≡ true = found ∙ subst (λ t. pointwise ◌==◌ t line ≡ true) (sym is) (same-self line) in
    absurd cc
