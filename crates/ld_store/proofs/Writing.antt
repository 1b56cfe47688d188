-- A record that is written by its plan.
use Rattle.std.proofs.Common.{◌≡◌, refl, ℕ, ◌+◌, ◌≤◌, ◌<◌, ◌^◌, max, nat_le, List, length, Option, None, Some, Bool, true, false, cond, is_ok, Result, Ok, Err, ◌∙◌, ap, subst, arith}
use Rattle.std.specs.Result.{IsErr}
use Rattle.std.proofs.lemmas.Bool.{or_parts, leb-false}
use Rattle.ld_disk.specs.Plain.{Plain as DiskPlain, after_calls, all_succeed}
use Rattle.ld_disk.specs.Moments.{LeavesOnly, Unchanged}
use Rattle.ld_disk.proofs.Runs.{begins_on}
use Rattle.ld_msg.specs.Register.{record_length, journal_limit}
use Rattle.ld_op.specs.Plain.{Plain}
use Rattle.ld_layout.specs.declared.segment.Segment.{Segment as Stretch}
use Rattle.ld_layout.specs.declared.segment.Layout.{Layout as Plan}
use Rattle.ld_layout.specs.LaidOut.{laid_out, later_of, gate_behind, ops_behind}
use Rattle.ld_layout.specs.Layout.{Layout, Segment, full_ops, full_for, is_full_first, is_full_later, switches, switched_to}
use Rattle.ld_segment.specs.Stays.{Rests}
use Rattle.ld_segment.specs.Lies.{Slots, gate_in, row_of, row_made, IsRowTorn}
use Rattle.ld_segment.specs.Plans.{Planned, planned_calls, planned_end, planned_made, planned_by, planned, IsPlanTorn}
use Rattle.ld_segment.proofs.Planning.{row_calls, row_torn, row_is_made}
use Rattle.ld_segment.proofs.Steps.{said_as}
use Rattle.ld_store.specs.Laid.{layout_in, placed_in, full_in}
use Rattle.ld_store.specs.declared.laid.Laid.{Laid}

-- ---- where it goes ----

pub behind_is : (y : Plan) (index : Plain) → gate_behind y.end y.later ≡ gate_in (laid_out y index) (later_of y.later)
behind_is y index = by y.later
  where
    by : (a : Option Stretch) → gate_behind y.end a ≡ gate_in (laid_out y index) (later_of a)
    by None = refl
    by (Some g) = refl

module _ (kind : ℕ) (y : Layout) (z : Slots) (body : List ℕ) where
  abbrev r : ℕ
  r = record_length (length body)

  pub gate_is : gate_in (placed_in y (length body)) (placed_in y (length body)).later ≡ (planned kind y z body).gate
  unfolding switched_to
  gate_is = by (switches y (length body))
    where
      by : (t : Bool) → gate_in (cond t (switched_to y r r) y) (cond t (switched_to y r r) y).later ≡ (planned_by kind y z body (length body) t).gate
      by true = refl
      by false = refl

  gate_low : planned_end (planned kind y z body) ≤ journal_limit → (planned kind y z body).gate + length body + 6 ≤ journal_limit
  gate_low = by (switches y (length body))
    where
      by : (t : Bool) → planned_end (planned_by kind y z body (length body) t) ≤ journal_limit → (planned_by kind y z body (length body) t).gate + length body + 6 ≤ journal_limit
      by true end = omega (arith, end)
      by false end = omega (arith, end)

  -- within the limit
  pub goes_low : (mid : Laid) (index : Plain) (p : Planned) → layout_in mid index ≡ placed_in y (length body) → p ≡ planned kind y z body → planned_end p ≤ journal_limit
      → gate_behind mid.layout.end mid.layout.later + length body + 6 ≤ journal_limit
  goes_low mid index p lies is end =
      let gate : gate_behind mid.layout.end mid.layout.later ≡ (planned kind y z body).gate = behind_is mid.layout index ∙ ap (λ l. gate_in l l.later) lies ∙ gate_is in
      omega (arith, gate, gate_low (subst (λ q. planned_end q ≤ journal_limit) is end))

-- ---- how many ops there are then ----

abbrev ops_in : Layout → Option Segment → ℕ
ops_in y None = y.ops
ops_in y (Some g) = g.ops

ops_is : (y : Plan) (index : Plain) → ops_behind y.ops y.later ≡ ops_in (laid_out y index) (later_of y.later)
ops_is y index = by y.later
  where
    by : (a : Option Stretch) → ops_behind y.ops a ≡ ops_in (laid_out y index) (later_of a)
    by None = refl
    by (Some g) = refl

few : (y : Plan) (index : Plain) (size : ℕ) → switches (laid_out y index) size ≡ false → ops_behind y.ops y.later < full_in y.later
unfolding switches
few y index size goes =
    let parts = or_parts (is_full_first (laid_out y index) (later_of y.later)) (is_full_later size (later_of y.later)) goes in
    by y.later parts.0 parts.1
  where
    by : (a : Option Stretch) → is_full_first (laid_out y index) (later_of a) ≡ false → is_full_later size (later_of a) ≡ false → ops_behind y.ops a < full_in a
    by None first later = leb-false full_ops y.ops first
    by (Some g) first later = leb-false (max (full_for g.grows) g.based) g.ops (or_parts (nat_le (max (full_for g.grows) g.based) g.ops) (nat_le g.limit (g.end + record_length size)) later).0

pub ops_low : (mid : Laid) (index : Plain) (y : Layout) (size most : ℕ) → layout_in mid index ≡ placed_in y size → most ≡ full_in mid.layout.later → most < 2 ^ 64 → ops_behind mid.layout.ops mid.layout.later + 1 < 2 ^ 64
unfolding switched_to
ops_low mid index y size most lies is fits = by (switches y size) refl lies
  where
    by : (t : Bool) → switches y size ≡ t → layout_in mid index ≡ cond t (switched_to y (record_length size) (record_length size)) y → ops_behind mid.layout.ops mid.layout.later + 1 < 2 ^ 64
    by true full same = let none : ops_behind mid.layout.ops mid.layout.later ≡ 0 = ops_is mid.layout index ∙ ap (λ l. ops_in l l.later) same in omega (arith, none)
    by false goes same = omega (arith, few mid.layout index size (ap (λ l. switches l size) same ∙ goes), is, fits)

-- ---- what it leaves ----

module _ {D : Type 0} (seen : D → Option (List ℕ)) (may_leave : D → List ℕ → Type 0) (moment : D → ℕ) (left_since : D → ℕ → List ℕ → Type 0) where
  pub rests_too : (old new : D) (b : List ℕ) → Unchanged seen may_leave moment left_since old new → Rests seen may_leave old b → Rests seen may_leave new b
  rests_too old new b same rests = record { bytes_are = same.bytes ∙ rests.bytes_are; stable = λ c left. rests.stable c (same.crash c left) }

  module _ (kind : ℕ) (y : Layout) (z : Slots) (body : List ℕ) (p : Planned) (is : p ≡ planned kind y z body) where
    pub row_rests : (new : D) (b : List ℕ) → Rests seen may_leave new (planned_made p b) → Rests seen may_leave new (row_made kind y z body b)
    row_rests new b rests = subst (Rests seen may_leave new) (ap (λ q. planned_made q b) is ∙ row_is_made kind y z body b) rests

    pub row_leaves : (old mid new : D) (b : List ℕ) → Unchanged seen may_leave moment left_since old mid → LeavesOnly moment left_since mid new (IsPlanTorn p b) → LeavesOnly moment left_since old new (IsRowTorn kind y z body b)
    row_leaves old mid new b same leaves =
        said_as seen may_leave moment left_since old new (IsPlanTorn p b) (IsRowTorn kind y z body b) (begins_on moment left_since seen may_leave old mid new (IsPlanTorn p b) same leaves)
        (λ c torn. row_torn kind y z body b c (subst (λ q. IsPlanTorn q b c) is torn))

-- the calls of a plan are its row's
pub row_exact : (kind : ℕ) (y : Layout) (z : Slots) (body : List ℕ) (p : Planned) → p ≡ planned kind y z body → (now : Option DiskPlain) (ok : Bool) (q : DiskPlain)
    → (now ≡ Some (after_calls (planned_calls p) q)) × (ok ≡ all_succeed (planned_calls p) q) → (now ≡ Some (after_calls (row_of kind y z body) q)) × (ok ≡ all_succeed (row_of kind y z body) q)
row_exact kind y z body p is now ok q exact =
    subst (λ calls. (now ≡ Some (after_calls calls q)) × (ok ≡ all_succeed calls q)) (ap planned_calls is ∙ row_calls kind y z body) exact

pub not_ok : {T E : Type 0} (r : Result T E) → IsErr r → is_ok r ≡ false
not_ok (Ok v) is = absurd (cc is)
not_ok (Err e) is = refl
