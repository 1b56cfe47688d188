-- The places of the flags that are set.
use Rattle.std.proofs.Common.{◌≡◌, ◌≢◌, ℕ, zero, suc, ◌+◌, ◌-◌, ◌<◌, ◌≤◌, Bool, true, false, not, ◌==◌, List, [], ◌∷◌, ◌++◌, map, filter, length, take, drop, set, get_or, slice_get, reverse, Option, Some, None, option_map, refl, ap, sym, ◌∙◌, inl, inr, arith, rules, nat_lt, if◌then◌else◌}
use Rattle.std.proofs.lemmas.List.{drop_more, drop-set-lt, drop-set-add, drop-append-le, drop_all, length-drop, length_push, get_or_push, length-set, length-map, length-append, length-reverse, get_or-reverse, get_or-append_right, get_or_append_left, get_or-map, map-set, map-append, reverse-append, set_past, get_or_past}
use Rattle.std.proofs.lemmas.Option.{slice_get-get_or}
use Rattle.std.proofs.Math.Seq.{map-set_same}
use Rattle.std.proofs.lemmas.Bool.{eq-eqb, ne_eqb, cases_lt, lt-ltb, le-ltb}
use Rattle.ld_msg.specs.declared.msg.Msg.{Msg}
use Rattle.ld_msg.specs.Network.{Network, message, send, mark}
use Rattle.ld_net.specs.declared.net.Sent.{Sent}
use Rattle.ld_net.specs.Kept.{places, messages, flags, network, IsBefore, IsFirst}

places-push : (k : ℕ) (xs : List Bool) → places k (xs ++ true ∷ []) ≡ places k xs ++ (k + length xs) ∷ []
places-push k [] = ap (λ n. n ∷ []) (omega arith)
places-push k (true ∷ xs) = ap (λ l. k ∷ l) (places-push (k + 1) xs ∙ ap (λ n. places (k + 1) xs ++ n ∷ []) (omega arith))
places-push k (false ∷ xs) = places-push (k + 1) xs ∙ ap (λ n. places (k + 1) xs ++ n ∷ []) (omega arith)

filter_above : (i k : ℕ) (xs : List Bool) → i < k → filter (λ j. not (i == j)) (places k xs) ≡ places k xs
filter_above i k [] h = refl
filter_above i k (true ∷ xs) h = rw (ne_eqb i k (omega arith)) (ap (λ l. k ∷ l) (filter_above i (k + 1) xs (omega arith)))
filter_above i k (false ∷ xs) h = filter_above i (k + 1) xs (omega arith)

-- a flag is taken away
places-unset : (n k i : ℕ) (xs : List Bool) → n ≡ k + i → places k (set xs i false) ≡ filter (λ j. not (n == j)) (places k xs)
places-unset n k i [] h = refl
places-unset n k zero (true ∷ xs) h = rw (eq-eqb n k (omega arith)) (sym (filter_above n (k + 1) xs (omega arith)))
places-unset n k zero (false ∷ xs) h = sym (filter_above n (k + 1) xs (omega arith))
places-unset n k (suc i) (true ∷ xs) h = rw (ne_eqb n k (omega arith)) (ap (λ l. k ∷ l) (places-unset n (k + 1) i xs (omega arith)))
places-unset n k (suc i) (false ∷ xs) h = places-unset n (k + 1) i xs (omega arith)

-- one place further, past a flag that isn't set
IsBefore-more : (xs : List Bool) (i : ℕ) → i < length xs → get_or xs i true ≡ false → IsBefore xs i → IsBefore xs (i + 1)
IsBefore-more xs i l n h = record {
  within = omega arith;
  before = h.before ∙ (ap (places i) (drop_more xs i true l) ∙ ap (λ b. places i (b ∷ drop (i + 1) xs)) n);
}

unset_from : (xs : List Bool) (first i : ℕ) → places first (drop first (set xs i false)) ≡ filter (λ j. not (i == j)) (places first (drop first xs))
unset_from xs first i = elim (cases_lt i first) [
  | inl l ↦ ap (places first) (drop-set-lt first xs i false l) ∙ sym (filter_above i first (drop first xs) l)
  | inr l ↦ let e : i ≡ first + (i - first) = omega arith in
      ap (λ k. places first (drop first (set xs k false))) e ∙ (ap (places first) (drop-set-add first xs (i - first) false) ∙ places-unset i first (i - first) (drop first xs) e)
]

IsBefore-unset : (xs : List Bool) (first i : ℕ) → IsBefore xs first → IsBefore (set xs i false) first
IsBefore-unset xs first i h = record {
  within = rw (length-set xs i false) h.within;
  before = places-unset i 0 i xs (omega arith) ∙ (ap (filter (λ j. not (i == j))) h.before ∙ sym (unset_from xs first i));
}

IsBefore-push : (xs : List Bool) (first : ℕ) → IsBefore xs first → IsBefore (xs ++ true ∷ []) first
IsBefore-push xs first h = record {
  within = rw (length-append xs (true ∷ [])) (omega (arith, h.within));
  before = places-push 0 xs ∙ (ap (λ l. l ++ (0 + length xs) ∷ []) h.before ∙ (ap (λ n. places first (drop first xs) ++ n ∷ []) (omega (arith, length-drop first xs, h.within)) ∙ (sym (places-push first (drop first xs)) ∙ ap (places first) (sym (drop-append-le first xs (true ∷ []) h.within)))));
}

here_push : (xs : List Bool) (first : ℕ) → (first < length xs → get_or xs first false ≡ true) → first < length (xs ++ true ∷ []) → get_or (xs ++ true ∷ []) first false ≡ true
here_push xs first h l = elim (cases_lt first (length xs)) [
  | inl w ↦ get_or_append_left xs (true ∷ []) false first w ∙ h w
  | inr w ↦ let e : first ≡ length xs = omega (arith, length-append xs (true ∷ [])) in get_or_push xs true false first (sym e)
]

-- ---- what is kept of the messages ----

pub kept_more : (kept : List Sent) (i : ℕ) (s : Sent) → i < length kept → s ≡ get_or kept i s → s.is_new ≡ false → IsBefore (flags kept) i → IsBefore (flags kept) (i + 1)
kept_more kept i s l r n h = IsBefore-more (flags kept) i (rw (length-map kept (λ x. x.is_new)) l) (get_or-map (λ x. x.is_new) kept i s true l ∙ (ap (λ x. x.is_new) (sym r) ∙ n)) h

pub kept_here : (kept : List Sent) (i : ℕ) (s : Sent) → i < length kept → s ≡ get_or kept i s → s.is_new ≡ true → IsBefore (flags kept) i → IsFirst (flags kept) i
kept_here kept i s l r n h = record { passed = h; here = λ w. get_or-map (λ x. x.is_new) kept i s false l ∙ (ap (λ x. x.is_new) (sym r) ∙ n) }

pub kept_past : (kept : List Sent) (i : ℕ) → length kept ≤ i → IsBefore (flags kept) i → IsFirst (flags kept) i
kept_past kept i l h = record { passed = h; here = λ w. absurd (omega (arith, length-map kept (λ x. x.is_new))) }

pub kept_push : (kept : List Sent) (first : ℕ) (m : Msg) → IsFirst (flags kept) first → IsFirst (flags (kept ++ record { msg = m; is_new = true } ∷ [])) first
kept_push kept first m h = rw (map-append (λ x. x.is_new) kept (record { msg = m; is_new = true } ∷ [])) record { passed = IsBefore-push (flags kept) first h.passed; here = here_push (flags kept) first h.here }

pub network_push : (kept : List Sent) (m : Msg) → network (kept ++ record { msg = m; is_new = true } ∷ []) ≡ send (network kept) m
network_push kept m = λ i. record {
  sent = (ap reverse (map-append (λ x. x.msg) kept (record { msg = m; is_new = true } ∷ [])) ∙ reverse-append (messages kept) (m ∷ [])) i;
  count = length_push kept (record { msg = m; is_new = true }) i;
  fresh = (ap (places 0) (map-append (λ x. x.is_new) kept (record { msg = m; is_new = true } ∷ [])) ∙ (places-push 0 (flags kept) ∙ ap (λ n. places 0 (flags kept) ++ n ∷ []) (let n : 0 + length (flags kept) ≡ length kept = omega (arith, length-map kept (λ x. x.is_new)) in n))) i;
}

pub kept_unset : (kept : List Sent) (first i : ℕ) (m : Msg) → IsBefore (flags kept) first → IsBefore (flags (set kept i (record { msg = m; is_new = false }))) first
kept_unset kept first i m h = rw (map-set (λ x. x.is_new) kept i (record { msg = m; is_new = false })) (IsBefore-unset (flags kept) first i h)

pub network_unset : (kept : List Sent) (i : ℕ) (s : Sent) → i < length kept → s ≡ get_or kept i s → network (set kept i (record { msg = s.msg; is_new = false })) ≡ mark (network kept) i
network_unset kept i s l r = λ j. record {
  sent = ap reverse (map-set_same (λ x. x.msg) kept i (record { msg = s.msg; is_new = false }) s (ap (λ x. x.msg) r)) j;
  count = length-set kept i (record { msg = s.msg; is_new = false }) j;
  fresh = (ap (places 0) (map-set (λ x. x.is_new) kept i (record { msg = s.msg; is_new = false })) ∙ places-unset i 0 i (flags kept) (omega arith)) j;
}

pub network_past : (kept : List Sent) (i : ℕ) → length kept ≤ i → network kept ≡ mark (network kept) i
network_past kept i l = λ j. record {
  sent = reverse (messages kept);
  count = length kept;
  fresh = (ap (places 0) (sym (set_past (flags kept) i false (rw (length-map kept (λ x. x.is_new)) l))) ∙ places-unset i 0 i (flags kept) (omega arith)) j;
}

pub message_at : (kept : List Sent) (i : ℕ) (s : Sent) → i < length kept → s ≡ get_or kept i s → message (network kept) i ≡ Some s.msg
unfolding message
message_at kept i s l r = rw (lt-ltb i (length kept) l) (
    let n : length (reverse (messages kept)) ≡ length kept = length-reverse (messages kept) ∙ length-map kept (λ x. x.msg) in
    let m : length (messages kept) ≡ length kept = length-map kept (λ x. x.msg) in
    slice_get-get_or (reverse (messages kept)) (length kept - 1 - i) s.msg (omega arith)
    ∙ ap Some (get_or-reverse (messages kept) (length kept - 1 - i) s.msg (omega arith)
    ∙ (ap (λ k. get_or (messages kept) k s.msg) (omega arith)
    ∙ (get_or-map (λ x. x.msg) kept i s s.msg l ∙ ap (λ x. x.msg) (sym r)))))

pub message_past : (kept : List Sent) (i : ℕ) → length kept ≤ i → message (network kept) i ≡ None
unfolding message
message_past kept i l = rw (le-ltb i (length kept) l) refl

pub ruleset net_rules = (kept_more, kept_here, kept_past, kept_push, network_push, kept_unset, network_unset, network_past, message_at, message_past)
