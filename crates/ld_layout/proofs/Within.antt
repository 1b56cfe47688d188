-- A layout stays within the limit.
use Rattle.std.proofs.Common.{◌≡◌, ◌<◌, ◌≤◌, ◌+◌, ◌&&◌, ◌||◌, ◌^◌, max, ℕ, zero, suc, Bool, true, false, List, [], ◌∷◌, Option, None, Some, refl, ap, ◌∙◌, nat_le, nat_lt, nat_cmp, Less, Greater, arith}
use Rattle.std.proofs.lemmas.Bool.{leb-true, leb-false, ltb-false, le-leb, and_parts, or_parts}
use Rattle.std.proofs.lemmas.Bool.Decides.{nat_tests}
use Rattle.std.specs.Ordering.{match_ordering}
use Rattle.std.specs.BTreeMap.{insert_entry}
use Rattle.ld_table.specs.Table.{put}
use Rattle.ld_msg.specs.Register.{record_length, journal_limit}
use Rattle.ld_op.specs.Plain.{Plain}
use Rattle.ld_layout.specs.Areas.{least_place}
use Rattle.ld_layout.specs.Layout.{head_end, full_for, switches, live_areas, least_for, room_for, used, closed_areas, base_length, new_segment}
use Rattle.ld_layout.specs.declared.segment.Segment.{Segment as Stretch}
use Rattle.ld_layout.specs.declared.segment.Layout.{Layout as Plan}
use Rattle.ld_layout.specs.LaidOut.{segment_of, later_of, laid_out, gate_behind, ops_behind, is_past, passes_first, more_ops, recorded_in, is_within_later}
use Rattle.ld_layout.proofs.Free.{no_less}
use Rattle.ld_layout.proofs.Copies.{place_later}
use Rattle.ld_layout.specs.declared.segment.Growth.{Growth}

-- ---- what is within, by numbers ----

record Ends (end : ℕ) (g : Stretch) : Type 0 where
  place : head_end end ≤ g.place
  ops : g.ops ≤ g.end
  inside : g.end + 1 ≤ g.limit
  limit : g.limit ≤ journal_limit

ends_of : (ops end : ℕ) (g : Stretch) → is_within_later ops end (Some g) ≡ true → Ends end g
ends_of ops end g w =
    let a = and_parts (nat_le (head_end end) g.place) (nat_le g.ops g.end && (nat_le (g.end + 1) g.limit && nat_le g.limit journal_limit)) w in
    let b = and_parts (nat_le g.ops g.end) (nat_le (g.end + 1) g.limit && nat_le g.limit journal_limit) a.1 in
    let c = and_parts (nat_le (g.end + 1) g.limit) (nat_le g.limit journal_limit) b.1 in
    record { place = leb-true (head_end end) g.place a.0; ops = leb-true g.ops g.end b.0; inside = leb-true (g.end + 1) g.limit c.0; limit = leb-true g.limit journal_limit c.1 }

ends_within : (ops end : ℕ) (g : Stretch) → Ends end g → is_within_later ops end (Some g) ≡ true
ends_within ops end g e =
    let a = le-leb (head_end end) g.place e.place in
    let b = le-leb g.ops g.end e.ops in
    let c = le-leb (g.end + 1) g.limit e.inside in
    let d = le-leb g.limit journal_limit e.limit in
    λ i. a i && (b i && (c i && d i))

numbers_by : (ops end : ℕ) (later : Option Stretch) → end ≤ journal_limit → is_within_later ops end later ≡ true → (end ≤ journal_limit) × ((gate_behind end later ≤ journal_limit) × (ops_behind ops later ≤ journal_limit))
numbers_by ops end None l w = let o = leb-true ops end w in (l, (l, omega arith))
numbers_by ops end (Some g) l w = let e = ends_of ops end g w in (l, (omega (arith, e.inside, e.limit), omega (arith, e.ops, e.inside, e.limit)))

pub numbers_within : (ops end : ℕ) (later : Option Stretch) → (nat_le end journal_limit && is_within_later ops end later) ≡ true → (end ≤ journal_limit) × ((gate_behind end later ≤ journal_limit) × (ops_behind ops later ≤ journal_limit))
numbers_within ops end later w = let p = and_parts (nat_le end journal_limit) (is_within_later ops end later) w in numbers_by ops end later (leb-true end journal_limit p.0) p.1

-- ---- a record ----

few_more : (is_op : Bool) (ops : ℕ) → more_ops is_op ops ≤ ops + 1
few_more true ops = omega arith
few_more false ops = omega arith

pub record_within : (grows : Growth) (ops end : ℕ) (later : Option Stretch) (index : Plain) (body : ℕ) (is_op : Bool) → (nat_le end journal_limit && is_within_later ops end later) ≡ true
    → switches (record { ops = ops; end = end; later = later_of later; index = index; grows = grows }) body ≡ false → passes_first end body later ≡ false
    → (nat_le (recorded_in grows ops end later body is_op).end journal_limit && is_within_later (recorded_in grows ops end later body is_op).ops (recorded_in grows ops end later body is_op).end (recorded_in grows ops end later body is_op).later) ≡ true
unfolding switches
record_within grows ops end None index body is_op w s p =
    let o = leb-true ops end (and_parts (nat_le end journal_limit) (nat_le ops end) w).1 in
    let l = ltb-false journal_limit (end + 1 + record_length body) p in
    let a = le-leb (end + record_length body) journal_limit (omega arith) in
    let b = le-leb (more_ops is_op ops) (end + record_length body) (let m = few_more is_op ops in omega arith) in
    λ i. a i && b i
record_within grows ops end (Some g) index body is_op w s p =
    let a = and_parts (nat_le end journal_limit) (is_within_later ops end (Some g)) w in
    let e = ends_of ops end g a.1 in
    let l = leb-false g.limit (g.end + record_length body) (or_parts (nat_le (max (full_for g.grows) g.based) g.ops) (nat_le g.limit (g.end + record_length body)) s).1 in
    let b = ends_within ops end (record g { ops = more_ops is_op g.ops; end = g.end + record_length body }) (record {
      place = e.place;
      ops = let m = few_more is_op g.ops in omega (arith, e.ops);
      inside = omega arith;
      limit = e.limit;
    }) in
    λ i. a.0 i && b i

-- ---- a switch ----

-- areas that begin with one from offset 0 on
record BeginWith (h : ℕ) (areas : List (ℕ × ℕ)) : Type 0 where
  rest : List (ℕ × ℕ)
  is : areas ≡ (0, h) ∷ rest

before_later : (n : ℕ) → nat_cmp 0 (suc n) ≡ Less
before_later n = grind (arith, nat_tests)

put_first : (h : ℕ) (m : List (ℕ × ℕ)) → BeginWith h (put 0 h m)
unfolding put
put_first h [] = record { rest = []; is = refl }
put_first h ((zero, v) ∷ m) = record { rest = m; is = refl }
put_first h ((suc n, v) ∷ m) = record { rest = (suc n, v) ∷ m; is = ap (λ r. match_ordering r ((0, h) ∷ (suc n, v) ∷ m) ((suc n, h) ∷ m) ((suc n, v) ∷ insert_entry nat_cmp m 0 h)) (before_later n) }

after_first : (k : ℕ) → 0 < k → nat_cmp k 0 ≡ Greater
after_first k l = grind (arith, nat_tests)

put_behind : (h k v : ℕ) (m : List (ℕ × ℕ)) → 0 < k → BeginWith h m → BeginWith h (put k v m)
unfolding put
put_behind h k v m l b = record {
  rest = put k v b.rest;
  is = ap (put k v) b.is ∙ ap (λ r. match_ordering r ((k, v) ∷ (0, h) ∷ b.rest) ((0, v) ∷ b.rest) ((0, h) ∷ insert_entry nat_cmp b.rest k v)) (after_first k l);
}

past_it : (size h : ℕ) (m : List (ℕ × ℕ)) → 0 < size → BeginWith h m → h ≤ least_place size 0 m
past_it size h m l b =
    let t : nat_le (0 + size) 0 ≡ false = grind (arith, nat_tests) in
    let e = place_later size 0 (0, h) m b.rest b.is t in
    let n = no_less size (max 0 (0 + h)) b.rest in
    omega arith

live_first : (grows : Growth) (ops end : ℕ) (later : Option Stretch) (index : Plain) → is_within_later ops end later ≡ true → BeginWith (head_end end) (live_areas (record { ops = ops; end = end; later = later_of later; index = index; grows = grows }) (later_of later))
live_first grows ops end None index w = record { rest = []; is = refl }
live_first grows ops end (Some g) index w = let e = ends_of ops end g w in put_behind (head_end end) g.place _ _ (omega (arith, e.place)) (put_first (head_end end) g.areas)

pub switch_within : (y : Plan) (g : Stretch) (index : Plain) (cause : ℕ) → (nat_le y.end journal_limit && is_within_later y.ops y.end y.later) ≡ true → segment_of g ≡ new_segment (laid_out y index) cause cause → is_past index (segment_of g) ≡ false
    → (nat_le y.end journal_limit && is_within_later y.ops y.end (Some g)) ≡ true
switch_within y g index cause w new fits =
    let a = and_parts (nat_le y.end journal_limit) (is_within_later y.ops y.end y.later) w in
    let base : ℕ = base_length index (used index (closed_areas (laid_out y index) (later_of y.later))) in
    let least : ℕ = least_for y.grows base in
    let size : ℕ = base + 6 + room_for least cause in
    let p = past_it size (head_end y.end) (live_areas (laid_out y index) (later_of y.later)) (omega arith) (live_first y.grows y.ops y.end y.later index a.1) in
    let at : g.place ≡ least_place size 0 (live_areas (laid_out y index) (later_of y.later)) = ap (λ s. s.place) new in
    let ops : g.ops ≡ 0 = ap (λ s. s.ops) new in
    let end : g.end ≡ least_place size 0 (live_areas (laid_out y index) (later_of y.later)) + 5 + base = ap (λ s. s.end) new in
    let limit : g.limit ≡ least_place size 0 (live_areas (laid_out y index) (later_of y.later)) + 6 + base + room_for least cause = ap (λ s. s.limit) new in
    let b = ends_within y.ops y.end g (record {
      place = omega arith;
      ops = omega arith;
      inside = omega arith;
      limit = ltb-false journal_limit g.limit (or_parts (nat_lt journal_limit g.limit) (nat_le (2 ^ 32) (base_length index g.areas) || nat_le (2 ^ 64) g.number) fits).0;
    }) in
    λ i. a.0 i && b i
