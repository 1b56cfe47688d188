-- A switch and a record leave a layout whose live areas share no byte.
use Rattle.std.proofs.Common.{◌≡◌, ◌≢◌, ⊎_elim, ℕ, ◌+◌, ◌-◌, ◌≤◌, ◌<◌, max, cond, nat_le, if◌then◌else◌, List, [], ◌∷◌, Option, None, Some, Bool, true, false, refl, sym, ap, subst, ◌∙◌, arith}
use Rattle.std.specs.List.Sorted.{IsStrictlySortedBy}
use Rattle.ld_table.specs.Table.{find, put, keep, Ordered}
use Rattle.ld_table.specs.Words.{any_of}
use Rattle.ld_table.proofs.Laws.{kept, put_cases, find-put_same, find-put_other, find-keep, find-empty}
use Rattle.ld_table.proofs.Order.{Ordered-put, Ordered-keep, keep_is}
use Rattle.std.proofs.lemmas.Bool.{leb-false, or_parts}
use Rattle.ld_msg.specs.Register.{record_length}
use Rattle.ld_op.specs.declared.op.Op.{Op}
use Rattle.ld_op.specs.Plain.{Plain, op_length}
use Rattle.ld_layout.specs.Areas.{IsApart, AreLive, IsLonger, AreShrunk, least_place}
use Rattle.ld_layout.specs.Layout.{Layout, Segment, head_end, used, holds_payload, base_length, closed_areas, live_areas, least_for, room_for, new_segment, switched_to, full_for, is_first, is_full_first, is_full_later, switches, later_with, with_record, new_layout, IfSegment, IsLaid}
use Rattle.ld_layout.proofs.Live.{live_next, free_of_each, rise_of}
use Rattle.ld_layout.proofs.Free.{is_free}

-- ---- the areas that are used ----

abbrev pub holds : Plain → ℕ → ℕ → Bool
holds p k v = any_of (holds_payload (k, v)) p.logs

pub used_is : (p : Plain) (areas : List (ℕ × ℕ)) → Ordered areas → used p areas ≡ keep (holds p) areas
used_is p areas ordered = keep_is (holds p) areas ordered

was_there : (P : ℕ → ℕ → Bool) (k v : ℕ) (o : Option ℕ) → kept P k o ≡ Some v → o ≡ Some v
was_there P k v None is = is
was_there P k v (Some w) is = by (P k w) is
  where
    by : (b : Bool) → cond b (Some w) None ≡ Some v → Some w ≡ Some v
    by true is = is
    by false is = absurd (cc is)

used_ordered : (p : Plain) (areas : List (ℕ × ℕ)) → Ordered areas → Ordered (used p areas)
used_ordered p areas ordered = subst (λ m. Ordered m) (sym (used_is p areas ordered)) (Ordered-keep (holds p) areas ordered)

used_found : (p : Plain) (areas : List (ℕ × ℕ)) (k v : ℕ) → Ordered areas → find k (used p areas) ≡ Some v → find k areas ≡ Some v
used_found p areas k v ordered found =
    was_there (holds p) k v (find k areas) (sym (find-keep k (holds p) areas) ∙ ap (λ m. find k m) (sym (used_is p areas ordered)) ∙ found)

same_value : (v w : ℕ) (o : Option ℕ) → o ≡ Some v → o ≡ Some w → v ≡ w
same_value v w o a b = let both : Some v ≡ Some w = sym a ∙ b in cc both

-- ---- the areas that stay live ----

-- behind the first segment with its head there stay areas of closed segments
shrunk_by : (end : ℕ) (closed live : List (ℕ × ℕ)) → find 0 live ≡ Some end → ((k v : ℕ) → k ≢ 0 → find k closed ≡ Some v → IsLonger v k live) → AreShrunk (put 0 end closed) live
shrunk_by end closed live first rest k v found = ⊎_elim
    (λ here. record { here = end; found = ap (λ q. find q live) here.0 ∙ first; longer = omega (arith, same_value v end (find k (put 0 end closed)) found here.1) })
    (λ there. rest k v there.0 (sym there.1 ∙ found))
    (put_cases k 0 end closed)

ordered_one : (k v : ℕ) → Ordered ((k, v) ∷ [])
unfolding IsStrictlySortedBy
ordered_one k v = (tt, tt)

pub closed_shrunk : (y : Layout) (g : Option Segment) → IfSegment g → (k v : ℕ) → k ≢ 0 → find k (closed_areas y g) ≡ Some v → IsLonger v k (live_areas y g)
unfolding put
closed_shrunk y None is k v other found = absurd (none k v other found)
  where
    none : (k v : ℕ) → k ≢ 0 → find k ((0, y.end + 1) ∷ []) ≡ Some v → ⊥
    none k v other found = (let both : None ≡ Some v = sym (find-put_other k 0 (y.end + 1) [] other ∙ find-empty k) ∙ found in cc both)
closed_shrunk y (Some g) is k v other found = ⊎_elim
    (λ here. record {
      here = g.limit - g.place;
      found = find-put_same k g.place (g.limit - g.place) (put 0 (head_end y.end) g.areas) here.0;
      longer = omega (arith, same_value v (g.end + 1 - g.place) (find k (put g.place (g.end + 1 - g.place) g.areas)) found here.1, is.within);
    })
    (λ there. record {
      here = v;
      found = find-put_other k g.place (g.limit - g.place) (put 0 (head_end y.end) g.areas) there.0 ∙ (find-put_other k 0 (head_end y.end) g.areas other ∙ (sym there.1 ∙ found));
      longer = omega arith;
    })
    (put_cases k g.place (g.end + 1 - g.place) g.areas)

pub closed_ordered : (y : Layout) (g : Option Segment) → IfSegment g → Ordered (closed_areas y g)
closed_ordered y None is = ordered_one 0 (y.end + 1)
closed_ordered y (Some g) is = Ordered-put g.place (g.end + 1 - g.place) g.areas is.ordered

first_live : (y : Layout) (g : Option Segment) → IfSegment g → find 0 (live_areas y g) ≡ Some (head_end y.end)
unfolding put
first_live y None is = find-put_same 0 0 (head_end y.end) [] refl
first_live y (Some g) is =
    find-put_other 0 g.place (g.limit - g.place) (put 0 (head_end y.end) g.areas) (λ same. omega (arith, same, is.behind)) ∙ find-put_same 0 0 (head_end y.end) g.areas refl

-- ---- a switch ----

past_first : (size place end : ℕ) → IsApart size place (0, end) → 0 < size → 0 < end → 0 < place
past_first size place end apart some more = ⊎_elim (λ before. absurd (omega (arith, before, some))) (λ behind. omega (arith, behind, more)) apart

module _ (y : Layout) (cause room : ℕ) (laid : IsLaid y) (less : room ≤ cause) where
  abbrev closed : List (ℕ × ℕ)
  closed = closed_areas y y.later

  abbrev areas : List (ℕ × ℕ)
  areas = used y.index closed

  abbrev live : List (ℕ × ℕ)
  live = live_areas y y.later

  abbrev g : Segment
  g = new_segment y cause room

  abbrev pub size : ℕ
  size = base_length y.index areas + 6 + room_for (least_for y.grows (base_length y.index areas)) cause

  areas_ordered : Ordered areas
  areas_ordered = used_ordered y.index closed (closed_ordered y y.later laid.segment)

  shrunk : AreShrunk (put 0 (head_end y.end) areas) live
  shrunk = shrunk_by (head_end y.end) areas live (first_live y y.later laid.segment)
      (λ k v other found. closed_shrunk y y.later laid.segment k v other (used_found y.index closed k v (closed_ordered y y.later laid.segment) found))

  long : g.limit - g.place ≤ size
  long = omega (arith, less)

  new_live : AreLive (put (least_place size 0 live) (g.limit - g.place) (put 0 (head_end y.end) areas))
  new_live = live_next size (g.limit - g.place) (put 0 (head_end y.end) areas) live long (Ordered-put 0 (head_end y.end) areas areas_ordered) shrunk laid.live

  -- the offset isn't 0, where the first segment stands
  pub behind : 0 < least_place size 0 live
  behind = past_first size (least_place size 0 live) (head_end y.end) (free_of_each size (least_place size 0 live) 0 (head_end y.end) live (is_free size 0 0 live (rise_of live laid.live.ordered)) (first_live y y.later laid.segment))
      (omega arith) (omega arith)

  pub switch_laid : IsLaid (switched_to y cause room)
  unfolding switched_to
  switch_laid = record {
    live = new_live;
    segment = record { behind = behind; begun = omega arith; within = omega arith; ordered = areas_ordered };
  }

-- ---- a record ----

one_live : (k v : ℕ) → AreLive ((k, v) ∷ [])
unfolding put
one_live k v = record {
  ordered = ordered_one k v;
  apart = λ i j a b at_i at_j other. absurd (other (only i a at_i ∙ sym (only j b at_j)));
}
  where
    only : (i a : ℕ) → find i ((k, v) ∷ []) ≡ Some a → i ≡ k
    only i a found = ⊎_elim (λ here. here.0) (λ there. absurd (let none : None ≡ Some a = sym (there.1 ∙ find-empty i) ∙ found in cc none)) (put_cases i k v [])

fits_area : (body : ℕ) (g : Segment) → is_full_later body (Some g) ≡ false → g.end + record_length body < g.limit
fits_area body g not_full = leb-false g.limit (g.end + record_length body) (or_parts (nat_le (max (full_for g.grows) g.based) g.ops) (nat_le g.limit (g.end + record_length body)) not_full).1

record_laid_by : (y : Layout) (o : Op) (g : Option Segment) → y.later ≡ g → IfSegment g → AreLive (live_areas y g) → is_full_later (op_length o) g ≡ false
    → AreLive (live_areas (record (with_record y o) { end = if is_first g then y.end + record_length (op_length o) else y.end }) (later_with g (op_length o))) × IfSegment (later_with g (op_length o))
unfolding with_record
record_laid_by y o None is segment live not_full = (one_live 0 (head_end (y.end + record_length (op_length o))), tt)
record_laid_by y o (Some g) is segment live not_full = (live, record { behind = segment.behind; begun = omega (arith, segment.begun); within = omega (arith, fits_area (op_length o) g not_full); ordered = segment.ordered })

pub record_laid : (y : Layout) (o : Op) → IsLaid y → switches y (op_length o) ≡ false → IsLaid (with_record y o)
unfolding with_record switches
record_laid y o laid goes_on =
    let parts = record_laid_by y o y.later refl laid.segment laid.live (or_parts (is_full_first y y.later) (is_full_later (op_length o) y.later) goes_on).1 in
    record { live = parts.0; segment = parts.1 }

pub new_laid : IsLaid new_layout
new_laid = record { live = one_live 0 49; segment = tt }
