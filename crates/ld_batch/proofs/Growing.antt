-- A batch that grows.
use Rattle.std.proofs.Common.{◌≡◌, ◌≤◌, ◌<◌, ℕ, ◌+◌, ◌/◌, ◌%◌, List, [], ◌∷◌, ◌++◌, length, set, sym, ap, ◌∙◌, arith}
use Rattle.std.proofs.lemmas.List.{length-append}
use Rattle.ld_batch.proofs.Packing.{packed_one_more, length-packed, length-packed-push}
use Rattle.ld_batch.proofs.Unpacking.{number_there, unpacked_again}
use Rattle.ld_batch.specs.Batch.{batch_limit, two_bytes, packed_message, packed_messages, packed, number_at, unpacked, listed, messages_in}

pub count_of : (bs : List ℕ) (ms : List (List ℕ)) → bs ≡ packed ms → (2 ≤ length bs) × (number_at bs 0 ≡ length ms)
unfolding packed
count_of bs ms is = (omega (arith, ap length is, length-packed ms), number_there [] (packed_messages ms) bs (length ms) is)

pub nothing_in : (bs : List ℕ) → bs ≡ two_bytes 0 → messages_in bs ≡ []
unfolding unpacked
nothing_in bs is = ap messages_in is

pub nothing_packed : (bs : List ℕ) → bs ≡ two_bytes 0 → bs ≡ packed (messages_in bs)
unfolding packed
nothing_packed bs is = is ∙ ap packed (sym (nothing_in bs is))

pub listed_again : (bs : List ℕ) (ms : List (List ℕ)) → bs ≡ packed ms → 1 ≤ length ms → length ms ≤ batch_limit → messages_in bs ≡ ms
listed_again bs ms is some most = ap messages_in is ∙ ap listed (unpacked_again ms some most)

pub grown : (bs : List ℕ) (ms : List (List ℕ)) (m more : List ℕ) (count : ℕ) → bs ≡ packed ms → count ≡ length ms → more ≡ bs ++ packed_message m
    → set (set more 0 ((count + 1) / 256)) 1 ((count + 1) % 256) ≡ packed (ms ++ m ∷ [])
unfolding packed
grown bs ms m more count is counted longer =
    let long : count + 1 ≡ length (ms ++ m ∷ []) = omega (arith, counted, length-append ms (m ∷ [])) in
    ap (λ l. set (set l 0 ((count + 1) / 256)) 1 ((count + 1) % 256)) (longer ∙ ap (λ l. l ++ packed_message m) is)
    ∙ ap (λ n. two_bytes n ++ (packed_messages ms ++ packed_message m)) long ∙ ap (λ l. two_bytes (length (ms ++ m ∷ [])) ++ l) (sym (packed_one_more ms m))

pub record IsGrown (after : List ℕ) (ms : List (List ℕ)) : Type 0 where
  pub listed : messages_in after ≡ ms
  pub is : after ≡ packed (messages_in after)
  pub most : length ms ≤ batch_limit
  pub short : length (packed ms) ≤ 65535

pub is_grown : (bs : List ℕ) (ms : List (List ℕ)) (m more : List ℕ) (count : ℕ) → bs ≡ packed ms → count ≡ length ms → more ≡ bs ++ packed_message m
    → length ms < batch_limit → length (packed ms) + 2 + length m ≤ 65535 → IsGrown (set (set more 0 ((count + 1) / 256)) 1 ((count + 1) % 256)) (ms ++ m ∷ [])
is_grown bs ms m more count is counted longer room short =
    let after = set (set more 0 ((count + 1) / 256)) 1 ((count + 1) % 256) in
    let packed_now : after ≡ packed (ms ++ m ∷ []) = grown bs ms m more count is counted longer in
    let most : length (ms ++ m ∷ []) ≤ batch_limit = omega (arith, room, length-append ms (m ∷ [])) in
    let listed_now : messages_in after ≡ ms ++ m ∷ [] = listed_again after (ms ++ m ∷ []) packed_now (omega (arith, length-append ms (m ∷ []))) most in
    record { listed = listed_now; is = packed_now ∙ ap packed (sym listed_now); most = most; short = omega (arith, short, length-packed-push ms m) }
