-- In a journal of the first version no epoch was closed with a loss.
use Rattle.std.proofs.Common.{◌≡◌, ⊎_elim, refl, ℕ, ◌+◌, nat_cmp, ◌==◌, ◌&&◌, ◌||◌, List, [], ◌∷◌, Option, None, Some, Bool, true, false, not, cond, sym, ◌∙◌, ap, subst, arith}
use Rattle.std.proofs.lemmas.Bool.Decides.{nat_tests}
use Rattle.std.specs.Option.{unwrap_or}
use Rattle.std.specs.BTreeMap.{is_at}
use Rattle.ld_table.specs.Table.{find}
use Rattle.ld_table.proofs.Laws.{put_cases, find-empty}
use Rattle.ld_msg.specs.Register.{record_length}
use Rattle.ld_msg.specs.declared.msg.Summary.{Summary}
use Rattle.ld_op.specs.declared.op.Op.{Op}
use Rattle.ld_op.specs.declared.op.Op.TheVariants as ops
use Rattle.ld_op.specs.declared.record.Record.{Record}
use Rattle.ld_op.specs.declared.record.Record.TheVariants.{Now, Before, Mark}
use Rattle.ld_op.specs.declared.version.Version.{Version}
use Rattle.ld_op.specs.declared.version.Version.TheVariants.{Blank, First, Second}
use Rattle.ld_op.specs.Plain.{Plain, Log, unformatted, empty_log, log_of, with_log, apply, accepted, sealed_by, cleaned, trimmed_to, refilled_with, refilled, lost_log, lost_logs}
use Rattle.ld_op.specs.Records.{is_format, is_clean, is_blank, is_first, body_length}
use Rattle.ld_op.specs.Bounds.{IsOlder}
use Rattle.ld_op.specs.Cells.{placed, placed_entry, placed_entries}
use Rattle.ld_segment.specs.Bases.{HasNoLoss}
use Rattle.ld_segment.specs.Ops.{indexed, version_on, AreRecords, ArePlaced}
use Rattle.ld_segment.specs.Lies.{Slots, after_base, behind_base, IsIndexed}
use Rattle.ld_layout.specs.Base.{is_second_kind}
use Rattle.ld_layout.specs.Layout.{Layout, Segment, growth_told}
use Rattle.ld_segment.proofs.Bodies.{none_on}
use Rattle.ld_segment.proofs.OneRead.{older_placed}
use Rattle.ld_segment.proofs.Kept.{some_base}

-- ---- versions ----

no_version : (w : Version) → None ≡ Some w → ⊥
no_version w is = absurd (cc is)

-- behind the second version stands no other
second_now : (vs : List Record) (w : Version) (b : Bool) → (version_on (Some Second) vs ≡ Some w → Second ≡ w) → version_on (cond (not b) (Some Second) None) vs ≡ Some w → Second ≡ w
second_now vs w true later is = absurd (none_on vs w is)
second_now vs w false later is = later is

pub second_stays : (vs : List Record) (w : Version) → version_on (Some Second) vs ≡ Some w → Second ≡ w
second_stays [] w is = cc is
second_stays (Now o ∷ vs) w is = second_now vs w (is_format o) (λ e. second_stays vs w e) is
second_stays (Before o ∷ vs) w is = absurd (none_on vs w is)
second_stays (Mark ∷ vs) w is = absurd (none_on vs w is)

second_never : (vs : List Record) → version_on (Some Second) vs ≡ Some First → ⊥
second_never vs is = let same : Second ≡ First = second_stays vs First is in absurd (cc same)

-- ---- summaries ----

abbrev HasNone : Log → Type 0
HasNone g = (epoch : ℕ) (y : Summary) → find epoch g.summaries ≡ Some y → y.loss ≡ false

none_in_empty : HasNone empty_log
none_in_empty epoch y found = absurd (let none : None ≡ Some y = sym (find-empty epoch) ∙ found in cc none)

none_in_lost : (c : ℕ) → HasNone (lost_log c)
none_in_lost c epoch y found = absurd (let none : None ≡ Some y = sym (find-empty epoch) ∙ found in cc none)

log_by : (o : Option Log) → ((g : Log) → o ≡ Some g → HasNone g) → HasNone (unwrap_or o empty_log)
log_by None each = none_in_empty
log_by (Some g) each = each g refl

log_none : (p : Plain) (l : ℕ) → HasNoLoss p → HasNone (log_of p l)
log_none p l none = log_by (find l p.logs) (λ g at epoch y found. none l epoch g y at found)

one_log : (p : Plain) (l : ℕ) (g : Log) → HasNoLoss p → HasNone g → HasNoLoss (with_log p l g)
one_log p l g none new k epoch h y at found = ⊎_elim
    (λ here. (let same : Some g ≡ Some h = sym here.1 ∙ at in let one : g ≡ h = cc same in new epoch y (ap (λ q. find epoch q.summaries) one ∙ found)))
    (λ there. none k epoch h y (sym there.1 ∙ at) found)
    (put_cases k l g p.logs)

none_lost : (ds : List (ℕ × ℕ)) → HasNoLoss (record { generation = 0; logs = lost_logs ds })
unfolding find
none_lost [] l epoch g y at found = absurd (cc at)
none_lost (d ∷ ds) l epoch g y at found = by (is_at (nat_cmp l) d.0) at (λ later. none_lost ds l epoch g y later found)
  where
    by : (b : Bool) → cond b (Some (lost_log d.1)) (find l (lost_logs ds)) ≡ Some g → (find l (lost_logs ds) ≡ Some g → y.loss ≡ false) → y.loss ≡ false
    by true is later = (let same : lost_log d.1 ≡ g = cc is in none_in_lost d.1 epoch y (ap (λ q. find epoch q.summaries) same ∙ found))
    by false is later = later is

-- a format, or a close without a loss
older_none : (p : Plain) (o : Op) → IsOlder o → HasNoLoss p → HasNoLoss (apply p o)
unfolding apply
older_none p (ops.Format generation epochs) is none = λ l epoch g y at found. none_lost epochs l epoch g y at found
older_none p (ops.Accept l lng e) is none = absurd is
older_none p (ops.Seal l b) is none = absurd is
older_none p (ops.Clean l epoch y) is none = one_log p l (cleaned (log_of p l) epoch y) none (λ k x found. ⊎_elim
    (λ here. (let same : Some y ≡ Some x = sym here.1 ∙ found in let one : y ≡ x = cc same in ap (λ s. s.loss) (sym one) ∙ is))
    (λ there. log_none p l none k x (sym there.1 ∙ found))
    (put_cases k epoch y (log_of p l).summaries))
older_none p (ops.Trim l t) is none = absurd is
older_none p (ops.Refill l es) is none = absurd is
older_none p (ops.Refilled l) is none = absurd is

-- an op that is no format and no close
now_none : (p : Plain) (at : ℕ) (o : Op) → is_format o ≡ false → is_clean o ≡ false → HasNoLoss p → HasNoLoss (apply p (placed at o))
unfolding apply
now_none p at (ops.Format generation epochs) f c none = absurd (cc f)
now_none p at (ops.Accept l lng e) f c none = one_log p l (accepted (log_of p l) lng (placed_entry (at + 9) e)) none (log_none p l none)
now_none p at (ops.Seal l b) f c none = one_log p l (sealed_by (log_of p l) b) none (log_none p l none)
now_none p at (ops.Clean l epoch y) f c none = absurd (cc c)
now_none p at (ops.Trim l t) f c none = one_log p l (trimmed_to (log_of p l) t) none (log_none p l none)
now_none p at (ops.Refill l es) f c none = one_log p l (refilled_with (log_of p l) (placed_entries (at + 7) es)) none (log_none p l none)
now_none p at (ops.Refilled l) f c none = one_log p l (refilled (log_of p l)) none (log_none p l none)

-- ---- records ----

now_on : (gate : ℕ) (p : Plain) (o : Op) (vs : List Record) (a b : Bool) → is_format o ≡ a → is_clean o ≡ b → version_on (cond (not (a || b)) (Some First) None) vs ≡ Some First → HasNoLoss p
    → (version_on (Some First) vs ≡ Some First → HasNoLoss (apply p (placed (gate + 5) o)) → HasNoLoss (indexed (gate + record_length (body_length (Now o))) (apply p (placed (gate + 5) o)) vs))
    → HasNoLoss (indexed (gate + record_length (body_length (Now o))) (apply p (placed (gate + 5) o)) vs)
now_on gate p o vs true b f c is none later = absurd (none_on vs First is)
now_on gate p o vs false true f c is none later = absurd (none_on vs First is)
now_on gate p o vs false false f c is none later = later is (now_none p (gate + 5) o f c none)

before_on : (gate : ℕ) (p : Plain) (o : Op) (vs : List Record) (b : Bool) → IsOlder o → version_on (cond b (Some First) None) vs ≡ Some First → HasNoLoss p
    → (version_on (Some First) vs ≡ Some First → HasNoLoss (apply p (placed (gate + 5) o)) → HasNoLoss (indexed (gate + record_length (body_length (Before o))) (apply p (placed (gate + 5) o)) vs))
    → HasNoLoss (indexed (gate + record_length (body_length (Before o))) (apply p (placed (gate + 5) o)) vs)
before_on gate p o vs true older is none later = later is (subst (λ x. HasNoLoss (apply p x)) (sym (older_placed (gate + 5) o older)) (older_none p o older none))
before_on gate p o vs false older is none later = absurd (none_on vs First is)

none_on_first : (gate : ℕ) (p : Plain) (vs : List Record) → AreRecords vs → version_on (Some First) vs ≡ Some First → HasNoLoss p → HasNoLoss (indexed gate p vs)
none_on_first gate p [] are is none = none
none_on_first gate p (Now o ∷ vs) are is none = now_on gate p o vs (is_format o) (is_clean o) refl refl is none (λ e more. none_on_first (gate + record_length (body_length (Now o))) (apply p (placed (gate + 5) o)) vs are.1 e more)
none_on_first gate p (Before o ∷ vs) are is none = before_on gate p o vs (is_clean o) are.0.1 is none (λ e more. none_on_first (gate + record_length (body_length (Before o))) (apply p (placed (gate + 5) o)) vs are.1 e more)
none_on_first gate p (Mark ∷ vs) are is none = absurd (second_never vs is)

none_unformatted : HasNoLoss unformatted
none_unformatted l epoch g y at found = absurd (let none : None ≡ Some g = sym (find-empty l) ∙ at in cc none)

opened_now : (o : Op) (vs : List Record) (b : Bool) → version_on (cond b (Some Second) None) vs ≡ Some First → ⊥
opened_now o vs true is = second_never vs is
opened_now o vs false is = none_on vs First is

none_from_blank : (gate : ℕ) (vs : List Record) → AreRecords vs → version_on (Some Blank) vs ≡ Some First → HasNoLoss (indexed gate unformatted vs)
none_from_blank gate [] are is = absurd (let same : Blank ≡ First = cc is in cc same)
none_from_blank gate (Now o ∷ vs) are is = absurd (opened_now o vs (is_format o) is)
none_from_blank gate (Before o ∷ vs) are is = before_on gate unformatted o vs (is_format o) are.0.1 is none_unformatted (λ e more. none_on_first (gate + record_length (body_length (Before o))) (apply unformatted (placed (gate + 5) o)) vs are.1 e more)
none_from_blank gate (Mark ∷ vs) are is = absurd (none_on vs First is)

-- ---- a journal of the first version ----

-- its first segment is of that version, and each of its Bases
pub is_nine : (n : ℕ) → (n == 9) ≡ true → n ≡ 9
is_nine n is = grind (arith, nat_tests)

first_base : (kind : ℕ) (opening : Version) → after_base kind opening ≡ Some First → (kind ≡ 9) × (opening ≡ First)
first_base kind opening is = by (is_second_kind kind) (kind == 9) refl opening is
  where
    by : (a b : Bool) → (kind == 9) ≡ b → (w : Version) → cond (is_blank w) None (cond a (Some Second) (cond (b && is_first w) (Some First) None)) ≡ Some First → (kind ≡ 9) × (w ≡ First)
    by a b nine Blank e = absurd (no_version First e)
    by true b nine First e = absurd (let same : Second ≡ First = cc e in cc same)
    by true b nine Second e = absurd (let same : Second ≡ First = cc e in cc same)
    by false true nine First e = (is_nine kind nine, refl)
    by false true nine Second e = absurd (no_version First e)
    by false false nine First e = absurd (no_version First e)
    by false false nine Second e = absurd (no_version First e)

from_first : (from : Version) (vs : List Record) → version_on (Some from) vs ≡ Some First → is_blank from ≡ false → from ≡ First
from_first Blank vs is other = absurd (cc other)
from_first First vs is other = refl
from_first Second vs is other = absurd (second_never vs is)

pub first_opening : (y : Layout) (z : Slots) (b : List ℕ) (a : Option Segment) (opening : Version) (rs : List Record) → IsIndexed opening First y z a rs b → opening ≡ First
first_opening y z b None opening rs is = sym is.0
first_opening y z b (Some g) opening rs is =
    let cur = is.current in
    let from = from_first cur.from cur.records cur.placed.version_is (some_base cur.kind opening cur.from cur.kind_is) in
    (first_base cur.kind opening (cur.kind_is ∙ ap (λ w. Some w) from)).1

pub first_none : (y : Layout) (z : Slots) (b : List ℕ) (a : Option Segment) (opening : Version) (rs : List Record) → ArePlaced Blank rs opening → IsIndexed opening First y z a rs b → HasNoLoss y.index
first_none y z b None opening rs placed is = subst HasNoLoss (sym is.1) (none_from_blank 0 rs placed.are (placed.version_is ∙ ap (λ w. Some w) (sym is.0)))
first_none y z b (Some g) opening rs placed is =
    let cur = is.current in
    let from = from_first cur.from cur.records cur.placed.version_is (some_base cur.kind opening cur.from cur.kind_is) in
    let nine = (first_base cur.kind opening (cur.kind_is ∙ ap (λ w. Some w) from)).0 in
    subst HasNoLoss (sym cur.index_is) (none_on_first (behind_base g cur.base) cur.base cur.records cur.placed.are (subst (λ w. version_on (Some w) cur.records ≡ Some First) from cur.placed.version_is) (cur.older nine))
