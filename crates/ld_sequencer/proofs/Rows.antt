-- A row of appends as its code has it.
use Rattle.std.proofs.Common.{◌≡◌, ℕ, Result, Ok, Err, OnOk, OnErr, ◌+◌, ◌<◌, ◌≤◌, List, [], ◌∷◌, ◌++◌, Bool, false, None, length, ap, sym, subst, arith, ◌∙◌}
use Rattle.ld_table.specs.Table.{find}
use Rattle.ld_msg.specs.Sequencer.{fresh_append}
use Rattle.std.proofs.lemmas.List.{length-map, map_push}
use Rattle.ld_window.specs.Flags.{leading, above}
use Rattle.ld_lsn.specs.Number.{numbered}
use Rattle.ld_appender.specs.Waiting.{Waiting, starts}
use Rattle.ld_ids.specs.declared.set.Spec.{Spec}
use Rattle.ld_sequencer.specs.Appends.{shown, carried, numbered_from, pushed, IsInStep, Row}
use Rattle.ld_sequencer.proofs.Windows.{length-numbered_from, numbered_from-push, find_below, find_above}
use Rattle.ld_sequencer.proofs.Marks.{waits, leading_within, leading_push, push_keeps}

-- as many are seen as wait
pub length_shown : (spec : Spec) (epoch : ℕ) (flags : List Bool) (ws : List Waiting) → length (shown spec epoch flags ws).appends ≡ length ws
length_shown spec epoch flags ws = length-numbered_from (numbered epoch (leading flags + 1)) (carried ws) ∙ length-map ws (λ w. w.append)

-- a number that doesn't wait
pub below_shown : (spec : Spec) (epoch n : ℕ) (flags : List Bool) (ws : List Waiting) → n < numbered epoch (leading flags + 1) → find n (shown spec epoch flags ws).appends ≡ None
below_shown spec epoch n flags ws h = find_below n (numbered epoch (leading flags + 1)) (carried ws) h

pub above_shown : (spec : Spec) (epoch n : ℕ) (flags : List Bool) (ws : List Waiting) → numbered epoch (leading flags + 1) + length ws ≤ n → find n (shown spec epoch flags ws).appends ≡ None
above_shown spec epoch n flags ws h = find_above n (numbered epoch (leading flags + 1)) (carried ws) (let m = length-map ws (λ w. w.append) in omega arith)

-- one more waits
pub push_shown : (spec : Spec) (epoch n : ℕ) (flags : List Bool) (ws : List Waiting) (p : List ℕ) → shown spec epoch (flags ++ false ∷ []) (ws ++ starts n p spec.r ∷ []) ≡ pushed (shown spec epoch flags ws) p
push_shown spec epoch n flags ws p =
    let f : ℕ = numbered epoch (leading flags + 1) in
    let c : carried (ws ++ starts n p spec.r ∷ []) ≡ carried ws ++ fresh_append p ∷ [] = map_push (λ w. w.append) ws (starts n p spec.r) in
    let l = length_shown spec epoch flags ws in
    let m = length-map ws (λ w. w.append) in
    let end : numbered epoch (leading flags + length (shown spec epoch flags ws).appends + 1) ≡ f + length (carried ws) = omega arith in
    λ j. record (shown spec epoch flags ws) {
      lng = leading_push flags j;
      appends = (ap (λ k. numbered_from (numbered epoch (k + 1)) (carried (ws ++ starts n p spec.r ∷ []))) (leading_push flags) ∙ (ap (numbered_from f) c ∙ sym (numbered_from-push _ f (fresh_append p) (carried ws) end))) j;
    }

pub room_is : (r : ℕ) (flags : List Bool) (ws : List Waiting) → IsInStep r flags ws → above flags ≡ length ws
room_is r flags ws h = let w = waits r flags ws h in omega arith

pub ruleset row_rules = (length_shown, length-numbered_from, length-map, waits, leading_within, below_shown, above_shown)

pub ruleset push_rules = (length_shown, length-numbered_from, length-map, waits, leading_within, room_is, push_keeps, push_shown)

-- a push that can't be refused
pub taken : {T E : Type 0} {P : Type 0} (r : Result T E) (n : ℕ) → OnErr r (128 ≤ n) → n < 128 → OnOk r P → P
taken (Ok u) n a b p = p
taken (Err e) n a b p = absurd (omega arith)

pub seen : (spec : Spec) (epoch : ℕ) (flags : List Bool) (ws : List Waiting) (r : Row) → shown spec epoch flags ws ≡ r → length r.appends ≡ length ws
seen spec epoch flags ws r h = subst (λ q. length q.appends ≡ length ws) h (length_shown spec epoch flags ws)
