-- Lengths of batches, and batches with one message more.
use Rattle.std.proofs.Common.{◌≡◌, ◌≤◌, ◌<◌, ℕ, zero, suc, ◌+◌, ◌*◌, List, [], ◌∷◌, ◌++◌, length, get_or, take, refl, sym, ap, ◌∙◌, arith, append_assoc}
use Rattle.std.proofs.lemmas.List.{length-append, append-nil, take_more, take_all}
use Rattle.ld_batch.specs.Batch.{two_bytes, packed_message, packed_messages, packed}

pub packed_messages-append : (xs ys : List (List ℕ)) → packed_messages (xs ++ ys) ≡ packed_messages xs ++ packed_messages ys
packed_messages-append [] ys = refl
packed_messages-append (x ∷ xs) ys =
    ap (λ l. packed_message x ++ l) (packed_messages-append xs ys) ∙ sym (append_assoc (packed_message x) (packed_messages xs) (packed_messages ys))

pub packed_one_more : (ms : List (List ℕ)) (m : List ℕ) → packed_messages (ms ++ m ∷ []) ≡ packed_messages ms ++ packed_message m
packed_one_more ms m = packed_messages-append ms (m ∷ []) ∙ ap (λ l. packed_messages ms ++ l) (append-nil (packed_message m))

pub length-packed : (ms : List (List ℕ)) → length (packed ms) ≡ 2 + length (packed_messages ms)
unfolding packed
length-packed ms = length-append (two_bytes (length ms)) (packed_messages ms)

pub length-packed-none : length (packed []) ≡ 2
unfolding packed
length-packed-none = refl

pub length-packed-front : (m : List ℕ) (ms : List (List ℕ)) → length (packed (m ∷ ms)) ≡ length (packed ms) + (length m + 2)
length-packed-front m ms = omega (arith, length-packed (m ∷ ms), length-packed ms, length-append (packed_message m) (packed_messages ms))

pub length-packed-push : (ms : List (List ℕ)) (m : List ℕ) → length (packed (ms ++ m ∷ [])) ≡ length (packed ms) + (length m + 2)
length-packed-push ms m =
    omega (arith, length-packed (ms ++ m ∷ []), length-packed ms, ap length (packed_one_more ms m), length-append (packed_messages ms) (packed_message m))

pub count_fits : (ms : List (List ℕ)) → 2 * length ms + 2 ≤ length (packed ms)
count_fits [] = omega (arith, length-packed-none)
count_fits (m ∷ ms) = omega (arith, count_fits ms, length-packed-front m ms)

pub message_fits : (ms : List (List ℕ)) (k : ℕ) (d : List ℕ) → k < length ms → length (get_or ms k d) + 2 ≤ length (packed ms)
message_fits [] k d inside = absurd (omega arith)
message_fits (m ∷ ms) zero d inside = omega (arith, length-packed-front m ms)
message_fits (m ∷ ms) (suc k) d inside = omega (arith, message_fits ms k d (omega arith), length-packed-front m ms)

pub one_more_message : (front : List ℕ) (ms : List (List ℕ)) (k : ℕ) (d m before after : List ℕ) → k < length ms → m ≡ get_or ms k d
    → before ≡ front ++ packed_messages (take k ms) → after ≡ before ++ packed_message m → after ≡ front ++ packed_messages (take (k + 1) ms)
one_more_message front ms k d m before after inside is so_far now =
    now ∙ ap (λ l. l ++ packed_message m) so_far ∙ append_assoc front (packed_messages (take k ms)) (packed_message m)
    ∙ ap (λ l. front ++ l) (ap (λ x. packed_messages (take k ms) ++ packed_message x) is ∙ sym (packed_one_more (take k ms) (get_or ms k d)) ∙ ap packed_messages (sym (take_more ms k d inside)))

pub all_packed : (ms : List (List ℕ)) (k : ℕ) (bytes : List ℕ) → length ms ≤ k → bytes ≡ two_bytes (length ms) ++ packed_messages (take k ms) → bytes ≡ packed ms
unfolding packed
all_packed ms k bytes past is = is ∙ ap (λ l. two_bytes (length ms) ++ packed_messages l) (take_all k ms past)
