-- No two live areas share a byte, whatever is written and however often segments are switched.
use Rattle.std.proofs.Common.{◌≡◌, ◌≢◌, ◌⊎◌, inl, inr, ⊎_elim, ℕ, ◌+◌, ◌≤◌, ◌<◌, List, [], ◌∷◌, cond, Some, Bool, true, false, refl, sym, ◌∙◌, arith, nat_cmp, Less}
use Rattle.std.proofs.lemmas.Bool.Decides.{nat_tests}
use Rattle.std.specs.List.{AllByRecursion}
use Rattle.std.specs.List.Sorted.{IsStrictlySortedBy}
use Rattle.std.specs.BTreeMap.{is_at}
use Rattle.std.specs.Map as map
use Rattle.ld_table.specs.Table.{find, put, Ordered}
use Rattle.ld_table.proofs.Laws.{put_cases, same_key}
use Rattle.ld_table.proofs.Order.{Ordered-put}
use Rattle.ld_layout.specs.Areas.{IsApart, IsFree, RiseFrom, Rise, AreLive, AreShrunk, least_place}
use Rattle.ld_layout.proofs.Free.{is_free}

less_is : (x y : ℕ) → nat_cmp x y ≡ Less → x < y
less_is x y is = grind (arith, nat_tests)

-- areas in order rise
rise_behind : (x from : ℕ) (areas : List (ℕ × ℕ)) → from ≤ x → AllByRecursion (λ y. nat_cmp x y ≡ Less) (map.keys_of areas) → Ordered areas → RiseFrom from areas
unfolding IsStrictlySortedBy
rise_behind x from [] le above ordered = tt
rise_behind x from (a ∷ areas) le above ordered = (omega (arith, le, less_is x a.0 above.0), rise_behind a.0 a.0 areas (omega arith) ordered.0 ordered.1)

pub rise_of : (areas : List (ℕ × ℕ)) → Ordered areas → Rise areas
unfolding IsStrictlySortedBy
rise_of [] ordered = tt
rise_of (a ∷ areas) ordered = (omega arith, rise_behind a.0 a.0 areas (omega arith) ordered.0 ordered.1)

-- what is free of all areas is free of each
free_by : (size at k v : ℕ) (a : ℕ × ℕ) (areas : List (ℕ × ℕ)) (b : Bool) → is_at (nat_cmp k) a.0 ≡ b → IsApart size at a → (find k areas ≡ Some v → IsApart size at (k, v)) → cond b (Some a.1) (find k areas) ≡ Some v → IsApart size at (k, v)
free_by size at k v a areas true is apart later found =
    let key : k ≡ a.0 = same_key k a.0 is in
    let value : a.1 ≡ v = cc found in
    ⊎_elim (λ before. inl (omega (arith, before, key))) (λ behind. inr (omega (arith, behind, key, value))) apart
free_by size at k v a areas false is apart later found = later found

pub free_of_each : (size at k v : ℕ) (areas : List (ℕ × ℕ)) → IsFree size at areas → find k areas ≡ Some v → IsApart size at (k, v)
unfolding find
free_of_each size at k v [] free found = absurd (cc found)
free_of_each size at k v (a ∷ areas) free found = free_by size at k v a areas (is_at (nat_cmp k) a.0) refl free.0 (λ later. free_of_each size at k v areas free.1 later) found

-- an area more that is free of all
pub live_put : (place size : ℕ) (areas : List (ℕ × ℕ)) → AreLive areas → ((k v : ℕ) → find k areas ≡ Some v → IsApart size place (k, v)) → AreLive (put place size areas)
live_put place size areas live free = record {
  ordered = Ordered-put place size areas live.ordered;
  apart = λ k l v w at_k at_l other. by k l v w other (put_cases k place size areas) (put_cases l place size areas) at_k at_l;
}
  where
    by : (k l v w : ℕ) → k ≢ l → ((k ≡ place) × (find k (put place size areas) ≡ Some size)) ⊎ ((k ≡ place → ⊥) × (find k (put place size areas) ≡ find k areas))
        → ((l ≡ place) × (find l (put place size areas) ≡ Some size)) ⊎ ((l ≡ place → ⊥) × (find l (put place size areas) ≡ find l areas))
        → find k (put place size areas) ≡ Some v → find l (put place size areas) ≡ Some w → (k + v ≤ l) ⊎ (l + w ≤ k)
    by k l v w other (inl p) (inl q) at_k at_l = absurd (other (p.0 ∙ sym q.0))
    by k l v w other (inl p) (inr q) at_k at_l =
        let apart = free l w (sym q.1 ∙ at_l) in
        let long : size ≡ v = (let both : Some size ≡ Some v = sym p.1 ∙ at_k in cc both) in
        ⊎_elim (λ before. inl (omega (arith, before, p.0, long))) (λ behind. inr (omega (arith, behind, p.0))) apart
    by k l v w other (inr p) (inl q) at_k at_l =
        let apart = free k v (sym p.1 ∙ at_k) in
        let long : size ≡ w = (let both : Some size ≡ Some w = sym q.1 ∙ at_l in cc both) in
        ⊎_elim (λ before. inr (omega (arith, before, q.0, long))) (λ behind. inl (omega (arith, behind, q.0))) apart
    by k l v w other (inr p) (inr q) at_k at_l = live.apart k l v w (sym p.1 ∙ at_k) (sym q.1 ∙ at_l) other

pub live_shrunk : (kept areas : List (ℕ × ℕ)) → Ordered kept → AreShrunk kept areas → AreLive areas → AreLive kept
live_shrunk kept areas ordered shrunk live = record {
  ordered = ordered;
  apart = λ k l v w at_k at_l other.
      let here = shrunk k v at_k in
      let there = shrunk l w at_l in
      ⊎_elim (λ before. inl (omega (arith, before, here.longer))) (λ behind. inr (omega (arith, behind, there.longer))) (live.apart k l here.here there.here here.found there.found other);
}

-- the new area at the least offset, and older ones that were live, or a front of them
pub live_next : (size length : ℕ) (kept areas : List (ℕ × ℕ)) → length ≤ size → Ordered kept → AreShrunk kept areas → AreLive areas → AreLive (put (least_place size 0 areas) length kept)
live_next size length kept areas short ordered shrunk live =
    let place = least_place size 0 areas in
    let free = is_free size 0 0 areas (rise_of areas live.ordered) in
    live_put place length kept (live_shrunk kept areas ordered shrunk live) (λ k v found.
    let old = shrunk k v found in
    ⊎_elim (λ before. inl (omega (arith, before, short))) (λ behind. inr (omega (arith, behind, old.longer))) (free_of_each size place k old.here areas free old.found))
