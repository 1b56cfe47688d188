-- All calls of an op made, on a disk on which all that is read is safe.
use Rattle.std.proofs.Common.{◌≡◌, refl, ℕ, List, [], ◌++◌, length, Option, None, Some, Bool, true, false, sym, ◌∙◌, ap, subst}
use Rattle.ld_disk.specs.Record.{State, state_of}
use Rattle.ld_disk.specs.Plain.{all_made}
use Rattle.ld_journal.specs.Format.{append_calls}
use Rattle.ld_journal.specs.Pictures.{IsSafe}
use Rattle.ld_op.specs.declared.op.Op.{Op}
use Rattle.ld_op.specs.Plain.{apply, op_length}
use Rattle.ld_op.specs.Bytes.{op_bytes}
use Rattle.ld_op.specs.Cells.{read_plain}
use Rattle.ld_layout.specs.Layout.{Layout, Segment, kind_of, switches, kept_in}
use Rattle.ld_segment.specs.Lies.{Slots, LiesAs, IsSound, MayKeep, written, segment_for, switch_row, calls_by, op_row, switched_bytes, with_body, made_by, row_made, slots_with}
use Rattle.ld_segment.proofs.OpRow.{kept_made}

abbrev safe_on : List ℕ → State
safe_on b = state_of b [] b

with_switch : (kind : ℕ) (y : Layout) (z : Slots) (g : Segment) (gate : ℕ) (body b : List ℕ) (a : Option Segment) → all_made (switch_row kind y z g a ++ append_calls gate body) (safe_on b) ≡ safe_on (with_body gate body (switched_bytes kind y z g a b))
with_switch kind y z g gate body b None = refl
with_switch kind y z g gate body b (Some s) = refl

pub made_is : (kind : ℕ) (y : Layout) (z : Slots) (body b : List ℕ) (n : ℕ) (t : Bool) → all_made (calls_by kind y z body n t) (safe_on b) ≡ safe_on (made_by kind y z body b n t)
made_is kind y z body b n true = with_switch kind y z (segment_for y n) (segment_for y n).end body b y.later
made_is kind y z body b n false = refl

module _ (y : Layout) (z : Slots) (o : Op) (b : List ℕ) (s : State) (safe : IsSafe b s) where
  pub all_is : all_made (op_row y z o) s ≡ safe_on (row_made (kind_of y) y z (op_bytes o) b)
  all_is = ap (all_made (op_row y z o)) safe ∙ made_is (kind_of y) y z (op_bytes o) b (length (op_bytes o)) (switches y (length (op_bytes o)))

  pub all_safe : IsSafe (all_made (op_row y z o) s).bytes (all_made (op_row y z o) s)
  all_safe = subst (λ t. IsSafe t.bytes t) (sym all_is) refl

  pub all_lie : LiesAs (written y) y z b → IsSound y → MayKeep y o → LiesAs (written (kept_in y o)) (kept_in y o) (slots_with y z (op_length o)) (all_made (op_row y z o) s).bytes
  all_lie lies sound may = subst (λ t. LiesAs (written (kept_in y o)) (kept_in y o) (slots_with y z (op_length o)) t.bytes) (sym all_is) (kept_made y z b o lies sound may).lies

  pub all_read : LiesAs (written y) y z b → IsSound y → MayKeep y o → read_plain (all_made (op_row y z o) s).bytes (kept_in y o).index ≡ apply (read_plain b y.index) o
  all_read lies sound may = subst (λ t. read_plain t.bytes (kept_in y o).index ≡ apply (read_plain b y.index) o) (sym all_is) (kept_made y z b o lies sound may).plain
