-- What is unpacked was packed.
use Rattle.std.proofs.Common.{◌≡◌, ◌↔◌, ◌⊎◌, inl, inr, ◌≤◌, ◌<◌, ℕ, zero, suc, ◌+◌, ◌-◌, ◌*◌, ◌/◌, ◌%◌, List, [], ◌∷◌, ◌++◌, length, get_or, take, drop, true, false, refl, sym, ap, subst, ◌∙◌, arith, append_assoc}
use Rattle.std.specs.Prelude.{◌||◌, nat_lt}
use Rattle.std.specs.List.{All}
use Rattle.std.proofs.lemmas.List.{length-append, length-drop, take-append-drop, length-take-le, get_or_at, take_at, drop_at, drop-drop, drop_more, drop_all}
use Rattle.std.proofs.lemmas.List.Elements.{All-nil, All-cons}
use Rattle.std.proofs.lemmas.Bool.Decides.{nat_tests}
use Rattle.ld_ids.specs.Bytes.{AreBytes}
use Rattle.ld_batch.proofs.Packing.{length-packed, length-packed-none, length-packed-push}
use Rattle.ld_batch.specs.Batch.{batch_limit, two_bytes, packed_message, packed_messages, packed, Unpacked, Messages, Bad, with_first, number_at, IsCutAt, IsMessageAt, read_messages, unpacked, IsShort, IsBatchOf}

-- ---- reading step by step ----

pub nothing_left : (bs : List ℕ) (at : ℕ) → length bs ≤ at → read_messages 0 bs at ≡ Messages []
nothing_left bs at all = let no : nat_lt at (length bs) ≡ false = grind (arith, nat_tests) in rw no refl

pub something_left : (bs : List ℕ) (at : ℕ) → at < length bs → read_messages 0 bs at ≡ Bad at
something_left bs at more = let yes : nat_lt at (length bs) ≡ true = grind (arith, nat_tests) in rw yes refl

is_cut : (bs : List ℕ) (at : ℕ) → IsCutAt bs at → (nat_lt (length bs) (at + 2) || nat_lt (length bs) (at + 2 + number_at bs at)) ≡ true
is_cut bs at cut = grind (arith, nat_tests)

is_whole : (bs : List ℕ) (at : ℕ) → at + 2 + number_at bs at ≤ length bs → (nat_lt (length bs) (at + 2) || nat_lt (length bs) (at + 2 + number_at bs at)) ≡ false
is_whole bs at fits = grind (arith, nat_tests)

pub one_cut : (k : ℕ) (bs : List ℕ) (at : ℕ) → 1 ≤ k → IsCutAt bs at → read_messages k bs at ≡ Bad at
one_cut zero bs at some cut = absurd (omega arith)
one_cut (suc k) bs at some cut = rw (is_cut bs at cut) refl

pub one_read : (k : ℕ) (bs : List ℕ) (at : ℕ) → at + 2 + number_at bs at ≤ length bs
    → read_messages (suc k) bs at ≡ with_first (take (number_at bs at) (drop (at + 2) bs)) (read_messages k bs (at + 2 + number_at bs at))
one_read k bs at fits = rw (is_whole bs at fits) refl

-- ---- what was packed is unpacked ----

pub number_there : (front rest bs : List ℕ) (n : ℕ) → bs ≡ front ++ n / 256 ∷ n % 256 ∷ rest → number_at bs (length front) ≡ n
number_there front rest bs n is =
    let high : get_or bs (length front) 0 ≡ n / 256 = ap (λ l. get_or l (length front) 0) is ∙ get_or_at front (n / 256) (n % 256 ∷ rest) 0 (length front) refl in
    let parted : bs ≡ (front ++ n / 256 ∷ []) ++ n % 256 ∷ rest = is ∙ sym (append_assoc front (n / 256 ∷ []) (n % 256 ∷ rest)) in
    let low : get_or bs (length front + 1) 0 ≡ n % 256 =
    ap (λ l. get_or l (length front + 1) 0) parted ∙ get_or_at (front ++ n / 256 ∷ []) (n % 256) rest 0 (length front + 1) (length-append front (n / 256 ∷ [])) in
    omega (arith, high, low)

behind_number : (front rest bs : List ℕ) (n : ℕ) → bs ≡ front ++ n / 256 ∷ n % 256 ∷ rest → drop (length front + 2) bs ≡ rest
behind_number front rest bs n is =
    ap (drop (length front + 2)) (is ∙ sym (append_assoc front (n / 256 ∷ n % 256 ∷ []) rest))
    ∙ drop_at (front ++ n / 256 ∷ n % 256 ∷ []) rest (length front + 2) (length-append front (n / 256 ∷ n % 256 ∷ []))

all_read : (ms : List (List ℕ)) (front bs : List ℕ) → bs ≡ front ++ packed_messages ms → read_messages (length ms) bs (length front) ≡ Messages ms
all_read [] front bs is = nothing_left bs (length front) (omega (arith, ap length is, length-append front []))
all_read (m ∷ ms) front bs is =
    let rest = packed_messages ms in
    let at = length front in
    let long : number_at bs at ≡ length m = number_there front (m ++ rest) bs (length m) is in
    let first : take (number_at bs at) (drop (at + 2) bs) ≡ m =
    ap (λ n. take n (drop (at + 2) bs)) long ∙ ap (take (length m)) (behind_number front (m ++ rest) bs (length m) is) ∙ take_at m rest (length m) refl in
    let behind : at + 2 + number_at bs at ≡ length (front ++ packed_message m) = omega (arith, long, length-append front (packed_message m)) in
    let others : read_messages (length ms) bs (at + 2 + number_at bs at) ≡ Messages ms =
    ap (read_messages (length ms) bs) behind ∙ all_read ms (front ++ packed_message m) bs (is ∙ sym (append_assoc front (packed_message m) rest)) in
    one_read (length ms) bs at (omega (arith, behind, ap length is, length-append front (packed_message m ++ rest), length-append (packed_message m) rest, length-append front (packed_message m)))
    ∙ ap (λ u. with_first (take (number_at bs at) (drop (at + 2) bs)) u) others ∙ ap (λ x. Messages (x ∷ ms)) first

pub counted : (bs : List ℕ) → 2 ≤ length bs → 1 ≤ number_at bs 0 → number_at bs 0 ≤ batch_limit → unpacked bs ≡ read_messages (number_at bs 0) bs 2
unfolding unpacked
counted bs long some most =
    let good : (nat_lt (length bs) 2 || (nat_lt (number_at bs 0) 1 || nat_lt batch_limit (number_at bs 0))) ≡ false = grind (arith, nat_tests) in
    rw good refl

pub no_count : (bs : List ℕ) → (length bs < 2) ⊎ (number_at bs 0 < 1) ⊎ (batch_limit < number_at bs 0) → unpacked bs ≡ Bad 0
unfolding unpacked
no_count bs which =
    let bad : (nat_lt (length bs) 2 || (nat_lt (number_at bs 0) 1 || nat_lt batch_limit (number_at bs 0))) ≡ true = grind (arith, nat_tests) in
    rw bad refl

-- messages are those of their batch
pub unpacked_again : (ms : List (List ℕ)) → 1 ≤ length ms → length ms ≤ batch_limit → unpacked (packed ms) ≡ Messages ms
unfolding packed
unpacked_again ms some most =
    let count : number_at (packed ms) 0 ≡ length ms = number_there [] (packed_messages ms) (packed ms) (length ms) refl in
    counted (packed ms) (omega (arith, length-packed ms)) (omega (arith, count)) (omega (arith, count))
    ∙ ap (λ n. read_messages n (packed ms) 2) count ∙ all_read ms (two_bytes (length ms)) (packed ms) refl

-- ---- what is unpacked was packed ----

-- so many messages stand from an offset on, and nothing else
record IsRest (k : ℕ) (bs : List ℕ) (at : ℕ) (ms : List (List ℕ)) : Type 0 where
  pub is : drop at bs ≡ packed_messages ms
  pub count : length ms ≡ k
  pub short : All IsShort ms

same_list : (a b : List (List ℕ)) → Messages a ≡ Messages b → a ≡ b
same_list a b e = cc

split_first : (m : List ℕ) (u : Unpacked) (ms : List (List ℕ)) → with_first m u ≡ Messages ms → (ns : List (List ℕ)) × (u ≡ Messages ns) × (ms ≡ m ∷ ns)
split_first m (Messages ns) ms e = (ns, refl, sym (same_list (m ∷ ns) ms e))
split_first m (Bad p) ms e = absurd (cc)

by_number : (a b : ℕ) → (a ≤ b) ⊎ (b < a)
by_number a b = grind arith

two_back : (h l n : ℕ) → l < 256 → n ≡ h * 256 + l → two_bytes n ≡ h ∷ l ∷ []
two_back h l n small is =
    let high : n / 256 ≡ h = omega arith in
    let low : n % 256 ≡ l = omega arith in
    rw (high, low) refl

one_back : (bs : List ℕ) (at n : ℕ) (m : List ℕ) → AreBytes bs → n ≡ number_at bs at → at + 2 + n ≤ length bs → m ≡ take n (drop (at + 2) bs)
    → (drop at bs ≡ packed_message m ++ drop (at + 2 + n) bs) × IsShort m
one_back bs at n m bytes long fits is =
    let inside : n ≤ length (drop (at + 2) bs) = omega (arith, length-drop (at + 2) bs) in
    let same : length m ≡ n = ap length is ∙ length-take-le n (drop (at + 2) bs) inside in
    let two : at + 1 + 1 ≡ at + 2 = omega arith in
    let high : drop at bs ≡ get_or bs at 0 ∷ drop (at + 1) bs = drop_more bs at 0 (omega arith) in
    let low : drop (at + 1) bs ≡ get_or bs (at + 1) 0 ∷ drop (at + 2) bs = drop_more bs (at + 1) 0 (omega arith) ∙ ap (λ k. get_or bs (at + 1) 0 ∷ drop k bs) two in
    let behind : drop (at + 2) bs ≡ m ++ drop (at + 2 + n) bs =
    sym (take-append-drop n (drop (at + 2) bs)) ∙ ap (λ l. l ++ drop n (drop (at + 2) bs)) (sym is) ∙ ap (λ l. m ++ l) (drop-drop n (at + 2) bs) in
    let number : two_bytes (length m) ≡ get_or bs at 0 ∷ get_or bs (at + 1) 0 ∷ [] =
    ap two_bytes same ∙ two_back (get_or bs at 0) (get_or bs (at + 1) 0) n (bytes (at + 1)) long in (
      high ∙ ap (λ l. get_or bs at 0 ∷ l) (low ∙ ap (λ l. get_or bs (at + 1) 0 ∷ l) behind) ∙ ap (λ l. l ++ (m ++ drop (at + 2 + n) bs)) (sym number),
      omega (arith, same, long, bytes at, bytes (at + 1)),
    )

all_back : (k : ℕ) (bs : List ℕ) (at : ℕ) (ms : List (List ℕ)) → AreBytes bs → read_messages k bs at ≡ Messages ms → IsRest k bs at ms
all_back zero bs at ms bytes read = elim (by_number (length bs) at) [
  | inl past ↦
      let none : [] ≡ ms = same_list [] ms (sym (nothing_left bs at past) ∙ read) in
      record { is = drop_all at bs past ∙ ap packed_messages none; count = ap length (sym none); short = subst (All IsShort) none (All-nil IsShort) }
  | inr more ↦ let other : Bad at ≡ Messages ms = sym (something_left bs at more) ∙ read in absurd (cc)
]
all_back (suc k) bs at ms bytes read = elim (by_number (at + 2 + number_at bs at) (length bs)) [
  | inl fits ↦
      let m = take (number_at bs at) (drop (at + 2) bs) in
      let parts = split_first m (read_messages k bs (at + 2 + number_at bs at)) ms (sym (one_read k bs at fits) ∙ read) in
      let others = all_back k bs (at + 2 + number_at bs at) parts.0 bytes parts.1 in
      let one = one_back bs at (number_at bs at) m bytes refl fits refl in
      record {
        is = one.0 ∙ ap (λ l. packed_message m ++ l) others.is ∙ ap packed_messages (sym parts.2);
        count = ap length parts.2 ∙ ap suc others.count;
        short = subst (All IsShort) (sym parts.2) (All-cons IsShort m parts.0 one.1 others.short);
      }
  | inr cut ↦ let other : Bad at ≡ Messages ms = sym (one_cut (suc k) bs at (omega arith) cut) ∙ read in absurd (cc)
]

-- the count is cut or out of its range, or it isn't
which_count : (long n : ℕ) → ((long < 2) ⊎ (n < 1) ⊎ (batch_limit < n)) ⊎ ((2 ≤ long) × (1 ≤ n) × (n ≤ batch_limit))
which_count long n = grind arith

pub packed_before : (bs : List ℕ) (ms : List (List ℕ)) → AreBytes bs → unpacked bs ≡ Messages ms → IsBatchOf bs ms
unfolding packed
packed_before bs ms bytes read = elim (which_count (length bs) (number_at bs 0)) [
  | inl bad ↦ let other : Bad 0 ≡ Messages ms = sym (no_count bs bad) ∙ read in absurd (cc)
  | inr good ↦
      let rest = all_back (number_at bs 0) bs 2 ms bytes (sym (counted bs good.0 good.1 good.2) ∙ read) in
      let high : bs ≡ get_or bs 0 0 ∷ drop 1 bs = drop_more bs 0 0 (omega (arith, good.0)) in
      let low : drop 1 bs ≡ get_or bs 1 0 ∷ drop 2 bs = drop_more bs 1 0 (omega (arith, good.0)) in
      record {
        is = high ∙ ap (λ l. get_or bs 0 0 ∷ l) (low ∙ ap (λ l. get_or bs 1 0 ∷ l) rest.is)
            ∙ ap (λ l. l ++ packed_messages ms) (sym (two_back (get_or bs 0 0) (get_or bs 1 0) (length ms) (bytes 1) rest.count));
        some = omega (arith, rest.count, good.1);
        most = omega (arith, rest.count, good.2);
        short = rest.short;
      }
]

pub packed_or_not : (bs : List ℕ) (ms : List (List ℕ)) → AreBytes bs → (unpacked bs ≡ Messages ms) ↔ IsBatchOf bs ms
packed_or_not bs ms bytes = (packed_before bs ms bytes, λ batch. ap unpacked batch.is ∙ unpacked_again ms batch.some batch.most)

-- ---- messages read so far ----

abbrev pub with_all : List (List ℕ) → Unpacked → Unpacked
with_all [] u = u
with_all (m ∷ ms) u = with_first m (with_all ms u)

pub with_one_more : (ms : List (List ℕ)) (m : List ℕ) (u : Unpacked) → with_all ms (with_first m u) ≡ with_all (ms ++ m ∷ []) u
with_one_more [] m u = refl
with_one_more (x ∷ ms) m u = ap (with_first x) (with_one_more ms m u)

pub with_bad : (ms : List (List ℕ)) (place : ℕ) → with_all ms (Bad place) ≡ Bad place
with_bad [] place = refl
with_bad (x ∷ ms) place = ap (with_first x) (with_bad ms place)

pub with_no_more : (ms : List (List ℕ)) → with_all ms (Messages []) ≡ Messages ms
with_no_more [] = refl
with_no_more (x ∷ ms) = ap (with_first x) (with_no_more ms)

-- so many of the messages are read, up to an offset
pub record IsSoFar (bs : List ℕ) (count i at : ℕ) (ms : List (List ℕ)) : Type 0 where
  pub inside : at ≤ length bs
  pub long : length (packed ms) ≡ at
  pub read : unpacked bs ≡ with_all ms (read_messages (count - i) bs at)

pub none_so_far : (bs : List ℕ) (count : ℕ) (ms : List (List ℕ)) → 2 ≤ length bs → count ≡ number_at bs 0 → 1 ≤ count → count ≤ batch_limit → ms ≡ [] → IsSoFar bs count 0 2 ms
none_so_far bs count ms long is some most none =
    let whole : count ≡ count - 0 = omega arith in record {
      inside = long;
      long = ap (λ l. length (packed l)) none ∙ length-packed-none;
      read = counted bs long (omega (arith, is, some)) (omega (arith, is, most)) ∙ ap (λ n. read_messages n bs 2) (sym is ∙ whole) ∙ ap (λ l. with_all l (read_messages (count - 0) bs 2)) (sym none);
    }

pub so_far_room : (bs : List ℕ) (count i at : ℕ) (ms : List (List ℕ)) (m : List ℕ) → IsSoFar bs count i at ms → IsMessageAt bs at m → length (packed (ms ++ m ∷ [])) ≤ length bs
so_far_room bs count i at ms m so_far here =
    omega (arith, here.0, so_far.long, length-packed-push ms m, ap length here.1, length-take-le (number_at bs at) (drop (at + 2) bs) (omega (arith, here.0, length-drop (at + 2) bs)))

pub one_more_so_far : (bs : List ℕ) (count i at : ℕ) (ms : List (List ℕ)) (m : List ℕ) → IsSoFar bs count i at ms → i < count → IsMessageAt bs at m
    → IsSoFar bs count (i + 1) (at + (2 + length m)) (ms ++ m ∷ [])
one_more_so_far bs count i at ms m so_far inside here =
    let long : length m ≡ number_at bs at = ap length here.1 ∙ length-take-le (number_at bs at) (drop (at + 2) bs) (omega (arith, here.0, length-drop (at + 2) bs)) in
    let next : at + 2 + number_at bs at ≡ at + (2 + length m) = omega (arith, long) in
    let left : count - i ≡ suc (count - (i + 1)) = omega (arith, inside) in
    record {
      inside = omega (arith, here.0, next);
      long = omega (arith, so_far.long, length-packed-push ms m);
      read = so_far.read ∙ ap (λ n. with_all ms (read_messages n bs at)) left ∙ ap (with_all ms) (one_read (count - (i + 1)) bs at here.0)
          ∙ with_one_more ms (take (number_at bs at) (drop (at + 2) bs)) (read_messages (count - (i + 1)) bs (at + 2 + number_at bs at))
          ∙ ap (λ x. with_all (ms ++ x ∷ []) (read_messages (count - (i + 1)) bs (at + 2 + number_at bs at))) (sym here.1)
          ∙ ap (λ n. with_all (ms ++ m ∷ []) (read_messages (count - (i + 1)) bs n)) next;
    }

pub cut_so_far : (bs : List ℕ) (count i at : ℕ) (ms : List (List ℕ)) → IsSoFar bs count i at ms → i < count → IsCutAt bs at → unpacked bs ≡ Bad at
cut_so_far bs count i at ms so_far inside cut = so_far.read ∙ ap (with_all ms) (one_cut (count - i) bs at (omega (arith, inside)) cut) ∙ with_bad ms at

pub surplus : (bs : List ℕ) (count i at : ℕ) (ms : List (List ℕ)) → IsSoFar bs count i at ms → count ≤ i → at < length bs → unpacked bs ≡ Bad at
surplus bs count i at ms so_far past more =
    let none : count - i ≡ 0 = omega (arith, past) in
    so_far.read ∙ ap (λ n. with_all ms (read_messages n bs at)) none ∙ ap (with_all ms) (something_left bs at more) ∙ with_bad ms at

pub no_surplus : (bs : List ℕ) (count i at : ℕ) (ms : List (List ℕ)) → IsSoFar bs count i at ms → count ≤ i → length bs ≤ at → unpacked bs ≡ Messages ms
no_surplus bs count i at ms so_far past all =
    let none : count - i ≡ 0 = omega (arith, past) in
    so_far.read ∙ ap (λ n. with_all ms (read_messages n bs at)) none ∙ ap (with_all ms) (nothing_left bs at all) ∙ with_no_more ms
