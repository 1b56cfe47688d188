-- Layouts stay sound: after a record, and after a switch.
use Rattle.std.proofs.Common.{◌≡◌, ◌≢◌, ⊎_elim, refl, ℕ, zero, suc, ◌+◌, ◌-◌, ◌≤◌, ◌<◌, ◌^◌, ◌==◌, max, nat_le, nat_lt, ◌||◌, ◌&&◌, List, [], ◌∷◌, length, Option, None, Some, Bool, true, false, cond, if◌then◌else◌, sym, ◌∙◌, ap, arith}
use Rattle.std.proofs.lemmas.Bool.{or_parts, or_left, or_right, leb-false, ltb-false}
use Rattle.std.proofs.lemmas.Bool.Decides.{nat_tests}
use Rattle.ld_table.specs.Table.{find, Ordered}
use Rattle.ld_table.specs.Words.{is_in, numbers_from}
use Rattle.ld_table.proofs.Laws.{put_cases, find-keep}
use Rattle.ld_msg.specs.Register.{record_length, journal_limit}
use Rattle.ld_op.specs.declared.op.Op.{Op}
use Rattle.ld_layout.specs.declared.segment.Growth.{Growth}
use Rattle.ld_layout.specs.declared.segment.Growth.TheVariants.{Still, Based, Wide}
use Rattle.ld_op.specs.Plain.{Plain, op_length}
use Rattle.ld_op.specs.Bounds.{IsOp}
use Rattle.ld_op.specs.Indexed.{first_place}
use Rattle.ld_layout.specs.Areas.{IsHeld}
use Rattle.ld_layout.specs.Layout.{Layout, Segment, head_end, used, base_length, closed_areas, new_segment, switched_to, full_for, switches, gate_of, with_record, later_with, kept_in, is_first, passes_in, passes_limit, IfSegment, IsLaid}
use Rattle.ld_layout.proofs.Switches.{holds, used_is, closed_ordered, switch_laid, record_laid}
use Rattle.ld_layout.proofs.Held.{switch_held}
use Rattle.ld_layout.proofs.Payloads.{record_held}
use Rattle.ld_segment.specs.Bases.{IsBase}
use Rattle.ld_segment.specs.Lies.{IfBounded, IsSound, MayKeep}
use Rattle.ld_segment.proofs.Listed.{passed, index_kept}
use Rattle.ld_segment.proofs.Standing.{one_is, head_before}

-- ---- a record ----

bounded_with : (y z : Layout) (a : Option Segment) (body : ℕ) → IfBounded y.end a → ((g : Segment) → a ≡ Some g → z.end ≡ y.end) → IfBounded z.end (later_with a body)
bounded_with y z None body bounded same = tt
bounded_with y z (Some g) body bounded same = record {
  number = bounded.number;
  limit = bounded.limit;
  ends = bounded.ends;
  first = λ v found. omega (arith, bounded.first v found, same g refl);
}

end_with : (y : Layout) (body : ℕ) (a : Option Segment) (g : Segment) → a ≡ Some g → (if is_first a then y.end + body else y.end) ≡ y.end
end_with y body None g is = absurd (cc is)
end_with y body (Some h) g is = refl

pub sound_with : (y : Layout) (o : Op) → IsSound y → IsOp o → switches y (op_length o) ≡ false → IsSound (with_record y o)
unfolding with_record
sound_with y o sound is goes_on = record {
  laid = record_laid y o sound.laid goes_on;
  held = record_held y o sound.laid sound.held;
  index = index_kept y.index (gate_of y y.later + 5) o is sound.index;
  bounded = bounded_with y (with_record y o) y.later (op_length o) sound.bounded (λ g is. end_with y (record_length (op_length o)) y.later g is);
}

-- ---- a switch ----

pub used_found : (p : Plain) (areas : List (ℕ × ℕ)) (k v : ℕ) → Ordered areas → find k (used p areas) ≡ Some v → find k areas ≡ Some v
used_found p areas k v ordered found =
    passed (holds p) k v (find k areas) (sym (find-keep k (holds p) areas) ∙ ap (λ m. find k m) (sym (used_is p areas ordered)) ∙ found)

closed_ends : (y : Layout) (a : Option Segment) → IfSegment a → IfBounded y.end a → y.end + 1 ≤ journal_limit → (k v : ℕ) → find k (closed_areas y a) ≡ Some v → k + v ≤ journal_limit
closed_ends y None segment bounded most k v found = let one = one_is 0 (y.end + 1) k v found in omega (arith, one.0, one.1, most)
closed_ends y (Some g) segment bounded most k v found = ⊎_elim
    (λ here. (let long : g.end + 1 - g.place ≡ v = (let same : Some (g.end + 1 - g.place) ≡ Some v = sym here.1 ∙ found in cc same) in omega (arith, here.0, long, segment.begun, segment.within, bounded.limit)))
    (λ there. bounded.ends k v (sym there.1 ∙ found))
    (put_cases k g.place (g.end + 1 - g.place) g.areas)

closed_first : (y : Layout) (a : Option Segment) → IfSegment a → IfBounded y.end a → (v : ℕ) → find 0 (closed_areas y a) ≡ Some v → v ≡ y.end + 1
closed_first y None segment bounded v found = (one_is 0 (y.end + 1) 0 v found).1
closed_first y (Some g) segment bounded v found = ⊎_elim
    (λ here. absurd (omega (arith, here.0, segment.behind)))
    (λ there. bounded.first v (sym there.1 ∙ found))
    (put_cases 0 g.place (g.end + 1 - g.place) g.areas)

-- a number among some that stand side by side
row_by : (at k : ℕ) (ks : List ℕ) (b : Bool) → (at == k) ≡ b → (at ≢ k → is_in k ks ≡ true) → is_in k (at ∷ ks) ≡ true
row_by at k ks true is later = or_left (at == k) (is_in k ks) is
row_by at k ks false is later = or_right (at == k) (is_in k ks) (later (λ e. grind (arith, nat_tests)))

in_row : (at n k : ℕ) → at ≤ k → k < at + n → is_in k (numbers_from at n) ≡ true
in_row at zero k from below = absurd (omega (arith, from, below))
in_row at (suc n) k from below = row_by at k (numbers_from (at + 1) n) (at == k) refl (λ other. in_row (at + 1) n k (omega (arith, from, other)) (omega (arith, below)))

-- a payload that stands in an area ends with it at the latest
row_ends : (areas : List (ℕ × ℕ)) (q : List ℕ) → q ≡ numbers_from (first_place q) (length q) → IsHeld q areas → ((k v : ℕ) → find k areas ≡ Some v → k + v ≤ journal_limit) → first_place q + length q < 2 ^ 64
row_ends areas [] row held ends = omega arith
row_ends areas (k ∷ ks) row held ends =
    let last : ℕ = k + length ks in
    let there : is_in last (k ∷ ks) ≡ true = ap (is_in last) row ∙ in_row k (suc (length ks)) last (omega arith) (omega arith) in
    let w = held.within last there in
    omega (arith, w.1, ends held.place held.length held.found)

-- what limits say of a switch
pub record Passes (y : Layout) (g : Segment) : Type 0 where
  pub limit : g.limit ≤ journal_limit
  pub fits : base_length y.index g.areas < 2 ^ 32
  pub number : g.number < 2 ^ 64

pub base_is : (y : Layout) (cause room : ℕ) → IsSound y → room ≤ cause → y.end + 1 ≤ journal_limit → Passes y (new_segment y cause room) → IsBase y.index (new_segment y cause room).areas
unfolding switched_to
base_is y cause room sound less most passes =
    let laid = switch_laid y cause room sound.laid less in
    let ends = closed_ends y y.later sound.laid.segment sound.bounded most in
    record {
      index = sound.index;
      places = λ l n g e q at_l at_n is. row_ends (closed_areas y y.later) q ((sound.index.listed l g at_l).rows n e q at_n is) (sound.held l n g e q at_l at_n is) ends;
      fits = passes.fits;
      sorted = laid.segment.ordered;
      ends = λ k v found. ends k v (used_found y.index (closed_areas y y.later) k v (closed_ordered y y.later sound.laid.segment) found);
    }

pub sound_switched : (y : Layout) (cause room : ℕ) → IsSound y → room ≤ cause → y.end + 1 ≤ journal_limit → Passes y (new_segment y cause room) → IsSound (switched_to y cause room)
unfolding switched_to
sound_switched y cause room sound less most passes = record {
  laid = switch_laid y cause room sound.laid less;
  held = switch_held y cause room sound.laid less sound.held;
  index = sound.index;
  bounded = record {
    number = passes.number;
    limit = passes.limit;
    ends = (base_is y cause room sound less most passes).ends;
    first = λ v found. closed_first y y.later sound.laid.segment sound.bounded v (used_found y.index (closed_areas y y.later) 0 v (closed_ordered y y.later sound.laid.segment) found);
  };
}

-- ---- an op that may be kept ----

pub not_left : (a b : Bool) → a ≡ true → (a && b) ≡ false → b ≡ false
not_left a b is none = sym (ap (λ t. t && b) is) ∙ none

pub passes_switch : (y : Layout) (o : Op) → switches y (op_length o) ≡ true → passes_limit y o ≡ false → Passes y (new_segment y (record_length (op_length o)) (record_length (op_length o)))
unfolding passes_limit switched_to
passes_switch y o is fits =
    let n : ℕ = record_length (op_length o) in
    let g : Segment = new_segment y n n in
    let there : passes_in y o (Some g) ≡ false = sym (ap (λ b. passes_in y o (cond b (switched_to y n n) y).later) is) ∙ fits in
    let long = not_left (switches y (op_length o)) (nat_lt journal_limit g.limit || (nat_le (2 ^ 32) (base_length y.index g.areas) || nat_le (2 ^ 64) g.number)) is there in
    let parts = or_parts (nat_lt journal_limit g.limit) (nat_le (2 ^ 32) (base_length y.index g.areas) || nat_le (2 ^ 64) g.number) long in
    let more = or_parts (nat_le (2 ^ 32) (base_length y.index g.areas)) (nat_le (2 ^ 64) g.number) parts.1 in
    record {
      limit = ltb-false journal_limit g.limit parts.0;
      fits = leb-false (2 ^ 32) (base_length y.index g.areas) more.0;
      number = leb-false (2 ^ 64) g.number more.1;
    }

-- a switch for less than what comes
pub less_room : (y : Layout) (cause room : ℕ) → room ≤ cause → Passes y (new_segment y cause cause) → Passes y (new_segment y cause room)
less_room y cause room less passes = record { limit = omega (arith, passes.limit, less); fits = passes.fits; number = passes.number }

-- the segment lies behind the head
pub behind_head : (y : Layout) (cause room : ℕ) → IsLaid y → room ≤ cause → head_end y.end ≤ (new_segment y cause room).place
unfolding switched_to
behind_head y cause room laid less = let made = switch_laid y cause room laid less in head_before (switched_to y cause room) (new_segment y cause room) made.live made.segment

-- then there is room for it
not_at_once : (grows : Growth) (based : ℕ) → nat_le (max (full_for grows) based) 0 ≡ false
not_at_once Still based = grind (arith, nat_tests)
not_at_once Based based = grind (arith, nat_tests)
not_at_once Wide based = grind (arith, nat_tests)

pub goes_on : (y : Layout) (body : ℕ) → switches (switched_to y (record_length body) (record_length body)) body ≡ false
unfolding switches switched_to
goes_on y body =
    let g : Segment = new_segment y (record_length body) (record_length body) in
    let few : nat_le (max (full_for g.grows) g.based) 0 ≡ false = not_at_once y.grows g.based in
    let room : nat_le g.limit (g.end + record_length body) ≡ false = grind (arith, nat_tests) in
    (λ i. few i || room i)

pub sound_laid : (y : Layout) (o : Op) (room : ℕ) → IsSound y → room ≤ record_length (op_length o) → passes_limit y o ≡ false → switches y (op_length o) ≡ true → IsSound (switched_to y (record_length (op_length o)) room)
sound_laid y o room sound less fits is =
    let n : ℕ = record_length (op_length o) in
    let passes = passes_switch y o is fits in
    sound_switched y n room sound less (omega (arith, behind_head y n n sound.laid (omega arith), passes.limit)) (less_room y n room less passes)

sound_by : (y : Layout) (o : Op) (b : Bool) → switches y (op_length o) ≡ b → IsSound y → MayKeep y o → IsSound (with_record (cond b (switched_to y (record_length (op_length o)) (record_length (op_length o))) y) o)
sound_by y o true is sound may = sound_with (switched_to y (record_length (op_length o)) (record_length (op_length o))) o (sound_laid y o (record_length (op_length o)) sound (omega arith) may.fits is) may.op (goes_on y (op_length o))
sound_by y o false is sound may = sound_with y o sound may.op is

pub sound_kept : (y : Layout) (o : Op) → IsSound y → MayKeep y o → IsSound (kept_in y o)
sound_kept y o sound may = sound_by y o (switches y (op_length o)) refl sound may
