-- What stands outside the ranges that are written stays.
use Rattle.std.proofs.Common.{◌≡◌, ◌⊎◌, refl, ⊎_elim, ℕ, zero, suc, ◌+◌, ◌-◌, ◌≤◌, ◌<◌, min, List, [], ◌∷◌, ◌++◌, length, get_or, take, drop, replicate, sym, ◌∙◌, ap, subst, arith, length-append, append_assoc, take-append-drop}
use Rattle.std.proofs.lemmas.List.{take-take, drop-drop, take_at, drop_at, length-take, length-take-le}
use Rattle.std.proofs.Math.Seq.{drop-cons, take-nil}
use Rattle.ld_disk.specs.Images.{overwrite, Torn}
use Rattle.ld_disk.proofs.Overwrites.{torn_whole, length-zeros}
use Rattle.ld_disk.proofs.Writes.{overwrite_at, torn_byte}
use Rattle.ld_segment.specs.Stays.{StaysOutside, IsSameAt, StandsAt}

pub drop_take : (at n : ℕ) (l : List ℕ) → drop at (take (at + n) l) ≡ take n (drop at l)
drop_take zero n l = let none : 0 + n ≡ n = omega arith in ap (λ (k : ℕ). take k l) none
drop_take (suc at) n [] = ap (λ (l : List ℕ). drop (suc at) l) (take-nil (suc at + n)) ∙ sym (take-nil n)
drop_take (suc at) n (x ∷ l) = let one : suc at + n ≡ suc (at + n) = omega arith in ap (λ (k : ℕ). drop (suc at) (take k (x ∷ l))) one ∙ drop_take at n l

pub same_before : (from at n : ℕ) (old new : List ℕ) → take from new ≡ take from old → at + n ≤ from → IsSameAt at n old new
same_before from at n old new same within =
    sym (drop_take at n new)
    ∙ ap (λ (l : List ℕ). drop at l) (sym (take-take (at + n) from new within) ∙ ap (λ (l : List ℕ). take (at + n) l) same ∙ take-take (at + n) from old within)
    ∙ drop_take at n old

pub same_behind : (to at : ℕ) (old new : List ℕ) → drop to new ≡ drop to old → to ≤ at → drop at new ≡ drop at old
same_behind to at old new same past =
    let step : to + (at - to) ≡ at = omega arith in
    ap (λ (k : ℕ). drop k new) (sym step) ∙ sym (drop-drop (at - to) to new) ∙ ap (λ (l : List ℕ). drop (at - to) l) same ∙ drop-drop (at - to) to old ∙ ap (λ (k : ℕ). drop k old) step

-- so many bytes from an offset on that lie before the range or behind it
pub stays_at : (from to at n : ℕ) (old new : List ℕ) → StaysOutside from to old new → (at + n ≤ from) ⊎ (to ≤ at) → IsSameAt at n old new
stays_at from to at n old new stays apart =
    ⊎_elim (λ within. same_before from at n old new stays.before within) (λ past. ap (λ (l : List ℕ). take n l) (same_behind to at old new stays.after past)) apart

pub stands_on : (from to at : ℕ) (piece old new : List ℕ) → StaysOutside from to old new → (at + length piece ≤ from) ⊎ (to ≤ at) → StandsAt at piece old → StandsAt at piece new
stands_on from to at piece old new stays apart stands = stays_at from to at (length piece) old new stays apart ∙ stands

-- an offset past the end has no bytes before it but those that are there
pub torn_far : (at n : ℕ) (old new : List ℕ) → Torn at n old new → StaysOutside (min at (length old)) (at + n) old new
torn_far at n old new torn = record { before = torn.before; after = torn.after; no_shorter = torn.no_shorter }

pub written_far : (at : ℕ) (piece old : List ℕ) → StaysOutside (min at (length old)) (at + length piece) old (overwrite at piece old)
written_far at piece old = torn_far at (length piece) old (overwrite at piece old) (torn_whole at piece old)

pub torn_round : (at n : ℕ) (old new : List ℕ) → at ≤ length old → Torn at n old new → StaysOutside at (at + n) old new
torn_round at n old new inside torn = let whole : min at (length old) ≡ at = omega arith in subst (λ k. StaysOutside k (at + n) old new) whole (torn_far at n old new torn)

pub written_round : (at : ℕ) (piece old : List ℕ) → at ≤ length old → StaysOutside at (at + length piece) old (overwrite at piece old)
written_round at piece old inside = torn_round at (length piece) old (overwrite at piece old) inside (torn_whole at piece old)

pub widened : (from to wide_from wide_to : ℕ) (old new : List ℕ) → wide_from ≤ from → to ≤ wide_to → StaysOutside from to old new → StaysOutside wide_from wide_to old new
widened from to wide_from wide_to old new before behind stays = record {
  before = sym (take-take wide_from from new before) ∙ ap (λ (l : List ℕ). take wide_from l) stays.before ∙ take-take wide_from from old before;
  after = same_behind to wide_to old new stays.after behind;
  no_shorter = stays.no_shorter;
}

pub stays_then : (from to : ℕ) (old mid new : List ℕ) → StaysOutside from to old mid → StaysOutside from to mid new → StaysOutside from to old new
stays_then from to old mid new first second = record {
  before = second.before ∙ first.before;
  after = second.after ∙ first.after;
  no_shorter = omega (arith, first.no_shorter, second.no_shorter);
}

-- what was written stands there
pub stands_written : (at : ℕ) (piece old : List ℕ) → StandsAt at piece (overwrite at piece old)
stands_written at piece old =
    let gap = replicate (at - length old) 0 in
    let front = take at old ++ gap in
    let behind = drop (at + length piece) old in
    let long : length front ≡ at = omega (arith, length-append (take at old) gap, length-take at old, length-zeros (at - length old)) in
    ap (λ (l : List ℕ). take (length piece) (drop at l)) (sym (append_assoc (take at old) gap (piece ++ behind)))
    ∙ ap (λ (l : List ℕ). take (length piece) l) (drop_at front (piece ++ behind) at long)
    ∙ take_at piece behind (length piece) refl

-- the one byte at an offset
pub byte_at : (at : ℕ) (bytes : List ℕ) → at < length bytes → StandsAt at (get_or bytes at 0 ∷ []) bytes
byte_at at bytes inside = ap (λ (l : List ℕ). take 1 l) (drop-cons bytes at 0 inside)

-- a write of one byte that is torn is a write of the byte that is there then
pub torn_one : (at : ℕ) (old c : List ℕ) → at < length old → Torn at 1 old c → c ≡ overwrite at (get_or c at 0 ∷ []) old
torn_one at old c inside torn =
    let long : at ≡ length (take at old) = sym (length-take-le at old (omega arith)) in
    let split : old ≡ take at old ++ get_or old at 0 ∷ drop (suc at) old = sym (take-append-drop at old) ∙ ap (λ (l : List ℕ). take at old ++ l) (drop-cons old at 0 inside) in
    torn_byte (take at old) (drop (suc at) old) (get_or old at 0) at long c (subst (λ l. Torn at 1 l c) split torn)
    ∙ sym (ap (λ (l : List ℕ). overwrite at (get_or c at 0 ∷ []) l) split ∙ overwrite_at (take at old) (get_or old at 0 ∷ drop (suc at) old) at long (get_or c at 0 ∷ []))
