-- Payloads that were read from a disk.
use Rattle.std.proofs.Common.{◌≡◌, ◌<◌, ◌≤◌, ◌+◌, ◌-◌, min, ℕ, zero, suc, List, [], ◌∷◌, ◌++◌, map, length, take, drop, false, nat_lt, cond, sym, ◌∙◌, ap, refl, subst, arith, take-append-drop}
use Rattle.std.proofs.lemmas.List.{take_all}
use Rattle.std.proofs.lemmas.Bool.Decides.{nat_tests}
use Rattle.ld_table.specs.Words.{numbers_from}
use Rattle.ld_msg.specs.declared.msg.What.{What}
use Rattle.ld_msg.specs.declared.msg.What.TheVariants.{Rec, Hole, Bridge, Plug, Withheld}
use Rattle.ld_msg.specs.declared.msg.Entry.{Entry}
use Rattle.ld_msg.specs.declared.msg.Body.{Body}
use Rattle.ld_msg.specs.declared.msg.Body.TheVariants as bodies
use Rattle.ld_op.specs.Cells.{each_what, each_entry, each_body, byte_at, is_rec, filled_what}
use Rattle.ld_op.specs.Filled.{is_page}
use Rattle.ld_op.proofs.Reading.{payload_read}
use Rattle.ld_store.specs.Open.{within}
use Rattle.ld_segment.proofs.Listed.{length-numbers_from}

-- ---- one payload ----

-- what was read is all that was asked for, and so what stands at the offsets
pub payload_is : (at len count : ℕ) (payload bytes : List ℕ) → length payload ≡ len → len ≤ count
    → (count ≡ min (length bytes - at) len) × (take count payload ≡ take count (drop at bytes)) → payload ≡ map (byte_at bytes) (numbers_from at len)
payload_is at len count payload bytes long enough (count_is, read) =
    let all : count ≡ len = omega (arith, count_is, enough) in
    let front : payload ≡ take len (drop at bytes) = sym (take_all count payload (omega (arith, long, enough))) ∙ (read ∙ ap (λ k. take k (drop at bytes)) all) in
    let here : drop at bytes ≡ payload ++ drop len (drop at bytes) = sym (take-append-drop len (drop at bytes)) ∙ ap (λ (l : List ℕ). l ++ drop len (drop at bytes)) (sym front) in
    sym (payload_read at payload (drop len (drop at bytes)) bytes here) ∙ ap (λ k. map (byte_at bytes) (numbers_from at k)) long

abbrev first_of : List ℕ → ℕ
first_of [] = 0
first_of (x ∷ xs) = x

abbrev rest_of : List ℕ → List ℕ
rest_of [] = []
rest_of (x ∷ xs) = xs

number_outside : (n at : ℕ) → n < at + 1 → within n at ≡ at → ⊥
number_outside n at past same =
    let test : nat_lt at n ≡ false = grind (arith, nat_tests) in
    let more : at + 1 ≡ at = sym (ap (λ b. cond b at (at + 1)) test) ∙ same in
    absurd (omega (arith, more))

-- offsets of which the last one lies past the end
numbers_outside : (n at k : ℕ) → 0 < k → n < at + k → map (within n) (numbers_from at k) ≡ numbers_from at k → ⊥
numbers_outside n at zero some past same = absurd (omega (arith, some))
numbers_outside n at (suc zero) some past same = number_outside n at past (ap first_of same)
numbers_outside n at (suc (suc k)) some past same = numbers_outside n (at + 1) (suc k) (omega arith) (omega (arith, past)) (ap rest_of same)

-- a read that ended early
pub ends_early : (at len count : ℕ) (bytes : List ℕ) → count < len → count ≡ min (length bytes - at) len → map (within (length bytes)) (numbers_from at len) ≡ numbers_from at len → ⊥
ends_early at len count bytes short count_is same = numbers_outside (length bytes) at len (omega (arith, short)) (omega (arith, short, count_is)) same

-- ---- entries ----

pub unfilled : (f : ℕ → ℕ) (q : List ℕ) (w : What) → is_rec w ≡ false → filled_what q w ≡ each_what f w
unfilled f q (Rec p) is = absurd (cc is)
unfilled f q Hole is = refl
unfilled f q Bridge is = refl
unfilled f q Plug is = refl
unfilled f q Withheld is = refl

-- a payload of another as long
zeros_of : (xs ys : List ℕ) → length xs ≡ length ys → map {B = ℕ} (λ _. 0) xs ≡ map {B = ℕ} (λ _. 0) ys
zeros_of [] [] long = refl
zeros_of [] (y ∷ ys) long = absurd (omega (arith, long))
zeros_of (x ∷ xs) [] long = absurd (omega (arith, long))
zeros_of (x ∷ xs) (y ∷ ys) long = ap (λ (l : List ℕ). 0 ∷ l) (zeros_of xs ys (omega (arith, long)))

what_long : (w : What) (q p : List ℕ) → w ≡ Rec p → length q ≡ length p → each_what (λ _. 0) (filled_what q w) ≡ each_what (λ _. 0) w
what_long w q p is long = subst (λ x. each_what (λ _. 0) (filled_what q x) ≡ each_what (λ _. 0) x) (sym is) (ap Rec (zeros_of q p long))

pub entry_long : (e : Entry) (q : List ℕ) (at len : ℕ) → e.what ≡ Rec (numbers_from at len) → length q ≡ len → each_entry (λ _. 0) (record { number = e.number; ballot = e.ballot; what = filled_what q e.what }) ≡ each_entry (λ _. 0) e
entry_long e q at len is long = ap (λ w. record { number = e.number; ballot = e.ballot; what = w }) (what_long e.what q (numbers_from at len) is (long ∙ sym (length-numbers_from at len)))

-- ---- bodies ----

-- a body that is no page has no payload
pub whole_same : (f : ℕ → ℕ) (b : Body) → is_page b ≡ false → each_body f b ≡ b
whole_same f (bodies.DigestPage from upto trim lng es) is = absurd (cc is)
whole_same f (bodies.ReadPage round from upto clean es) is = absurd (cc is)
whole_same f b is = refl
