-- The window's flags beside the appends that wait.
use Rattle.std.proofs.Common.{◌≡◌, ℕ, zero, suc, ◌+◌, ◌-◌, ◌^◌, ◌<◌, ◌≤◌, Bool, true, false, List, [], ◌∷◌, ◌++◌, length, map, drop, set, slice_get, unwrap_or, Some, refl, ap, sym, subst, ◌∙◌, inl, inr, arith, if◌then◌else◌, nat_le}
use Rattle.std.proofs.lemmas.Bool.{cases_Bool, lt-leb, leb-false}
use Rattle.std.proofs.lemmas.List.{length-append, length-set, drop-drop, length-drop, length-map, map_push, map-set, drop-set-add, drop-map}
use Rattle.ld_recovery.proofs.Settling.{longer}
use Rattle.ld_table.specs.Table.{find, put}
use Rattle.ld_lsn.specs.Number.{numbered}
use Rattle.ld_table.specs.Words.{with_one}
use Rattle.ld_ids.specs.declared.set.Spec.{Spec}
use Rattle.ld_msg.specs.Sequencer.{Append, stored_at, is_acked, acked_first, unacked_from, payload_limit}
use Rattle.ld_window.specs.Flags.{leading}
use Rattle.ld_appender.specs.Waiting.{Waiting, is_enough, with_stored, starts}
use Rattle.ld_sequencer.specs.Appends.{IsWaiting, AreWaiting, IsInStep, carried, shown, numbered_from, with_append, flags_after}
use Rattle.ld_sequencer.proofs.Windows.{acked_run, acked_first_is, unacked_is, put_at, find_at}

pub leading_within : (flags : List Bool) → leading flags ≤ length flags
leading_within [] = omega arith
leading_within (b ∷ flags) = let h = leading_within flags in elim b as (λ b. (if b then suc (leading flags) else 0) ≤ suc (length flags)) [ true ↦ omega arith | false ↦ omega arith ]

-- as many stand above the last number as wait
pub waits : (r : ℕ) (flags : List Bool) (ws : List Waiting) → IsInStep r flags ws → length flags ≡ leading flags + length ws
waits r flags ws h =
    let a = leading_within flags in
    let b : length flags - leading flags ≡ length ws = sym (length-drop (leading flags) flags) ∙ (ap length h.marks ∙ length-map ws is_enough) in
    omega arith

-- ---- one more waits ----

pub leading_push : (flags : List Bool) → leading (flags ++ false ∷ []) ≡ leading flags
leading_push [] = refl
leading_push (b ∷ flags) = ap (λ k. if b then suc k else 0) (leading_push flags)

drop_push : (flags : List Bool) → drop (leading flags) (flags ++ false ∷ []) ≡ drop (leading flags) flags ++ false ∷ []
drop_push [] = refl
drop_push (b ∷ flags) = elim b as (λ b. drop (if b then suc (leading flags) else 0) (b ∷ flags ++ false ∷ []) ≡ drop (if b then suc (leading flags) else 0) (b ∷ flags) ++ false ∷ []) [ true ↦ drop_push flags | false ↦ refl ]

waiting_push : (r : ℕ) (ws : List Waiting) (w : Waiting) → AreWaiting r ws → IsWaiting r w → AreWaiting r (ws ++ w ∷ [])
waiting_push r [] w h e = (e, tt)
waiting_push r (v ∷ ws) w h e = (h.0, waiting_push r ws w h.1 e)

not_enough : (n r : ℕ) (p : List ℕ) → 1 ≤ r → is_enough (starts n p r) ≡ false
not_enough n r p h = lt-leb r 0 h

pub push_keeps : (r n : ℕ) (flags : List Bool) (ws : List Waiting) (p : List ℕ) → IsInStep r flags ws → leading flags + length ws + 1 ≤ 2 ^ 32 - 2 → length p ≤ payload_limit → IsInStep r (flags ++ false ∷ []) (ws ++ starts n p r ∷ [])
push_keeps r n flags ws p h b l = record {
  waiting = waiting_push r ws (starts n p r) h.waiting (record { factor = refl; short = l });
  marks = ap (λ k. drop k (flags ++ false ∷ [])) (leading_push flags) ∙ (drop_push flags ∙ (ap (λ m. m ++ false ∷ []) h.marks ∙ (ap (λ b. map is_enough ws ++ b ∷ []) (sym (not_enough n r p h.copies)) ∙ sym (map_push is_enough ws (starts n p r)))));
  bound = let a = waits r flags ws h in let e : length (flags ++ false ∷ []) ≡ length flags + 1 = length-append flags (false ∷ []) in omega arith;
  copies = h.copies;
}

-- ---- a node stored one that waits ----

leading_split : (n : ℕ) (flags : List Bool) → n ≤ leading flags → leading flags ≡ n + leading (drop n flags)
leading_split zero flags h = omega arith
leading_split (suc n) [] h = absurd (omega arith)
leading_split (suc n) (true ∷ flags) h = let e = leading_split n flags (omega arith) in omega arith
leading_split (suc n) (false ∷ flags) h = absurd (omega arith)

leading_set : (flags : List Bool) (i : ℕ) → leading flags ≤ leading (set flags i true)
leading_set [] i = omega arith
leading_set (true ∷ flags) zero = omega arith
leading_set (false ∷ flags) zero = omega arith
leading_set (true ∷ flags) (suc i) = let h = leading_set flags i in omega arith
leading_set (false ∷ flags) (suc i) = omega arith

set_same : (flags : List Bool) (i : ℕ) (b : Bool) → slice_get flags i ≡ Some b → set flags i b ≡ flags
set_same [] i b h = absurd cc
set_same (x ∷ flags) zero b h = ap (λ o. unwrap_or o true ∷ flags) (sym h)
set_same (x ∷ flags) (suc i) b h = ap (λ m. x ∷ m) (set_same flags i b h)

map_get : {X Y : Type 0} (f : X → Y) (xs : List X) (i : ℕ) (x : X) → slice_get xs i ≡ Some x → slice_get (map f xs) i ≡ Some (f x)
map_get f [] i x h = absurd cc
map_get f (y ∷ xs) zero x h = ap (λ o. Some (f (unwrap_or o x))) h
map_get f (y ∷ xs) (suc i) x h = map_get f xs i x h

waiting_set : (r : ℕ) (ws : List Waiting) (i : ℕ) (w : Waiting) → AreWaiting r ws → IsWaiting r w → AreWaiting r (set ws i w)
waiting_set r [] i w h e = tt
waiting_set r (v ∷ ws) zero w h e = (e, h.1)
waiting_set r (v ∷ ws) (suc i) w h e = (h.0, waiting_set r ws i w h.1 e)

waiting_drop : (r k : ℕ) (ws : List Waiting) → AreWaiting r ws → AreWaiting r (drop k ws)
waiting_drop r zero ws h = h
waiting_drop r (suc k) [] h = tt
waiting_drop r (suc k) (w ∷ ws) h = waiting_drop r k ws h.1

pub waiting_get : (r : ℕ) (ws : List Waiting) (i : ℕ) (w : Waiting) → AreWaiting r ws → slice_get ws i ≡ Some w → IsWaiting r w
waiting_get r [] i w h g = absurd cc
waiting_get r (v ∷ ws) zero w h g = let e : v ≡ w = cc in subst (IsWaiting r) e h.0
waiting_get r (v ∷ ws) (suc i) w h g = waiting_get r ws i w h.1 g

-- enough nodes stay enough
grows : (w : Waiting) (y : ℕ) → is_enough (with_stored w y) ≡ false → is_enough w ≡ false
grows w y h = let a = longer y w.append.stored in lt-leb w.factor (length w.append.stored) (let b = leb-false w.factor (length (with_one y w.append.stored)) h in omega arith)

-- the flags above the last number, before it rises
marks_after : (r : ℕ) (flags : List Bool) (ws : List Waiting) (i y : ℕ) (w : Waiting) → IsInStep r flags ws → slice_get ws i ≡ Some w
    → drop (leading flags) (flags_after (is_enough (with_stored w y)) (leading flags + i) flags) ≡ map is_enough (set ws i (with_stored w y))
marks_after r flags ws i y w h g = (elim (cases_Bool (is_enough (with_stored w y))) [
  | inl e ↦ rw e (drop-set-add (leading flags) flags i true ∙ (ap (λ m. set m i true) h.marks))
  | inr e ↦ rw e (h.marks ∙ (sym (set_same (map is_enough ws) i false (map_get is_enough ws i w g ∙ ap Some (grows w y e)))))
]) ∙ sym (map-set is_enough ws i (with_stored w y))

-- as many of the first flags are set as of the first appends are acknowledged
pub run_is : (s : Spec) (ws : List Waiting) → AreWaiting s.r ws → leading (map is_enough ws) ≡ acked_run s (carried ws)
run_is s [] h = refl
run_is s (w ∷ ws) h = ap (λ r. if nat_le r (length w.append.stored) then suc (leading (map is_enough ws)) else 0) h.0.factor ∙ ap (λ k. if is_acked s w.append then suc k else 0) (run_is s ws h.1)

module _ (s : Spec) (flags : List Bool) (ws : List Waiting) (i y : ℕ) (w : Waiting) (h : IsInStep s.r flags ws) (g : slice_get ws i ≡ Some w) where
  abbrev stored : List Waiting
  stored = set ws i (with_stored w y)

  abbrev now : List Bool
  now = flags_after (is_enough (with_stored w y)) (leading flags + i) flags

  pub rises : leading flags ≤ leading now
  rises = let a = leading_set flags (leading flags + i) in elim (is_enough (with_stored w y)) as (λ b. leading flags ≤ leading (flags_after b (leading flags + i) flags)) [ true ↦ a | false ↦ omega arith ]

  above_is : drop (leading flags) now ≡ map is_enough stored
  above_is = marks_after s.r flags ws i y w h g

  all_wait : AreWaiting s.r stored
  all_wait = let a = waiting_get s.r ws i w h.waiting g in waiting_set s.r ws i (with_stored w y) h.waiting (record { factor = a.factor; short = a.short })

  -- the last number rises by the acknowledged ones
  pub run_now : leading now ≡ leading flags + acked_run s (carried stored)
  run_now =
      let a = leading_split (leading flags) now rises in
      let b : leading (drop (leading flags) now) ≡ acked_run s (carried stored) = ap leading above_is ∙ run_is s stored all_wait in
      omega arith

  pub length_now : length now ≡ length flags
  length_now = elim (is_enough (with_stored w y)) as (λ b. length (flags_after b (leading flags + i) flags) ≡ length flags) [ true ↦ length-set flags (leading flags + i) true | false ↦ refl ]

  pub stored_keeps : (k : ℕ) → leading now ≡ leading flags + k → IsInStep s.r now (drop k stored)
  stored_keeps k e = record {
    waiting = waiting_drop s.r k stored all_wait;
    marks = ap (λ n. drop n now) e ∙ (sym (drop-drop k (leading flags) now) ∙ (ap (drop k) above_is ∙ drop-map is_enough k stored));
    bound = let a = h.bound in let b = length_now in omega arith;
    copies = h.copies;
  }

  -- the row is seen as the definition has it
  pub stored_shown : (epoch n k : ℕ) → n ≡ numbered epoch (leading flags + 1) + i → i < length ws → leading now ≡ leading flags + k
      → shown s epoch now (drop k stored) ≡ with_append (shown s epoch flags ws) n (stored_at w.append y)
  stored_shown epoch n k e l r =
      let f : ℕ = numbered epoch (leading flags + 1) in
      let xs : List Append = set (carried ws) i (stored_at w.append y) in
      let c : carried stored ≡ xs = map-set (λ v. v.append) ws i (with_stored w y) in
      let run : acked_run s xs ≡ k = ap (acked_run s) (sym c) ∙ (let a = run_now in omega arith) in
      let there : put n (stored_at w.append y) (numbered_from f (carried ws)) ≡ numbered_from f xs = put_at n f i (stored_at w.append y) (carried ws) e (let m = length-map ws (λ v. v.append) in omega arith) in
      let next : numbered epoch (leading now + 1) ≡ f + acked_run s xs = omega arith in
      let rest : carried (drop k stored) ≡ drop (acked_run s xs) xs = sym (drop-map (λ v. v.append) k stored) ∙ (ap (drop k) c ∙ ap (λ m. drop m xs) (sym run)) in
      λ j. record (shown s epoch flags ws) {
        lng = (r ∙ (ap (λ m. leading flags + m) (sym run ∙ sym (acked_first_is s f xs)) ∙ ap (λ m. leading flags + acked_first s m) (sym there))) j;
        appends = (ap (numbered_from (numbered epoch (leading now + 1))) rest ∙ (sym (unacked_is s f (numbered epoch (leading now + 1)) xs next) ∙ ap (unacked_from s) (sym there))) j;
      }

  pub stored_found : (epoch n : ℕ) → n ≡ numbered epoch (leading flags + 1) + i → find n (shown s epoch flags ws).appends ≡ Some w.append
  stored_found epoch n e = find_at n (numbered epoch (leading flags + 1)) i (carried ws) e ∙ map_get (λ v. v.append) ws i w g
