-- Appends that go to their next wave.
use Rattle.std.proofs.Common.{◌≡◌, ℕ, ◌+◌, ◌<◌, Bool, true, false, List, [], ◌∷◌, ◌++◌, length, map, take, drop, set, slice_get, Some, refl, ap, sym, ◌∙◌, inl, inr, arith, if◌then◌else◌, nat_le}
use Rattle.std.proofs.lemmas.List.{length-append, length-map, length-take, length-drop}
use Rattle.std.proofs.lemmas.List.Edits.{map_over_more}
use Rattle.std.proofs.lemmas.Option.{slice_get_cases}
use Rattle.ld_ids.specs.declared.set.Spec.{Spec}
use Rattle.ld_lsn.specs.Number.{numbered}
use Rattle.ld_window.specs.Flags.{leading}
use Rattle.ld_appender.specs.Waiting.{Waiting, is_enough, with_next_wave}
use Rattle.ld_msg.specs.Sequencer.{Append, is_acked, raised, next_wave}
use Rattle.ld_sequencer.specs.Appends.{IsWaiting, AreWaiting, IsInStep, shown, carried, numbered_from, raised_one, raises}

same_marks : (w : Waiting) → is_enough (raised_one w) ≡ is_enough w
same_marks w = elim (is_enough w) as (λ b. is_enough (if b then w else with_next_wave w) ≡ is_enough w) [ true ↦ refl | false ↦ refl ]

map_marks : (ws : List Waiting) → map is_enough (map raised_one ws) ≡ map is_enough ws
map_marks [] = refl
map_marks (w ∷ ws) = λ j. same_marks w j ∷ map_marks ws j

still_waits : (r : ℕ) (w : Waiting) → IsWaiting r w → IsWaiting r (raised_one w)
still_waits r w h = elim (is_enough w) as (λ b. IsWaiting r (if b then w else with_next_wave w)) [ true ↦ h | false ↦ record { factor = h.factor; short = h.short } ]

all_wait : (r : ℕ) (ws : List Waiting) → AreWaiting r ws → AreWaiting r (map raised_one ws)
all_wait r [] h = tt
all_wait r (w ∷ ws) h = (still_waits r w h.0, all_wait r ws h.1)

pub raise_keeps : (r : ℕ) (flags : List Bool) (ws : List Waiting) → IsInStep r flags ws → IsInStep r flags (map raised_one ws)
raise_keeps r flags ws h = record { waiting = all_wait r ws h.waiting; marks = h.marks ∙ sym (map_marks ws); bound = h.bound; copies = h.copies }

abbrev raised_append : Spec → Append → Append
raised_append s p = if is_acked s p then p else record { payload = p.payload; wave = next_wave p.wave; stored = p.stored }

one_append : (s : Spec) (w : Waiting) → w.factor ≡ s.r → (raised_one w).append ≡ raised_append s w.append
one_append s w h = elim (is_enough w) as (λ b. (if b then w else with_next_wave w).append ≡ (if b then w.append else record { payload = w.append.payload; wave = next_wave w.append.wave; stored = w.append.stored })) [ true ↦ refl | false ↦ refl ]
    ∙ ap (λ r. if nat_le r (length w.append.stored) then w.append else record { payload = w.append.payload; wave = next_wave w.append.wave; stored = w.append.stored }) h

appends : (s : Spec) (f : ℕ) (ws : List Waiting) → AreWaiting s.r ws → numbered_from f (carried (map raised_one ws)) ≡ raised s (numbered_from f (carried ws))
appends s f [] h = refl
appends s f (w ∷ ws) h = λ j. (f, one_append s w h.0.factor j) ∷ appends s (f + 1) ws h.1 j

pub raise_shown : (s : Spec) (epoch : ℕ) (flags : List Bool) (ws : List Waiting) → IsInStep s.r flags ws → shown s epoch flags (map raised_one ws) ≡ raises (shown s epoch flags ws)
raise_shown s epoch flags ws h = ap (λ m. record (shown s epoch flags ws) { appends = m }) (appends s (numbered epoch (leading flags + 1)) ws h.waiting)

pub ruleset wave_rules = (raise_keeps, raise_shown)

-- one more is raised
pub raised_more : (xs ys after : List Waiting) (i : ℕ) → i < length xs → ys ≡ map raised_one (take i xs) ++ drop i xs → ((w : Waiting) → slice_get ys i ≡ Some w → after ≡ set ys i (raised_one w)) → after ≡ map raised_one (take (i + 1) xs) ++ drop (i + 1) xs
raised_more xs ys after i l e h = elim (slice_get_cases ys i).1 [
  | inl f ↦ h f.0 f.2 ∙ map_over_more raised_one xs ys i f.0 l e (sym f.3)
  | inr f ↦ absurd (let a = ap length e in let b = length-append (map raised_one (take i xs)) (drop i xs) in let c = length-map (take i xs) raised_one in let d = length-take i xs in let g = length-drop i xs in omega arith)
]
