-- What lies on a disk after an op was kept, or after a fault in one of its writing calls.
use Rattle.std.proofs.Common.{◌≡◌, ◌≤◌, ◌+◌, ◌==◌, ℕ, List, [], ◌∷◌, ◌++◌, length, Bool, true, false, Option, None, Some, is_some, if◌then◌else◌, refl, sym, ◌∙◌, ap, subst}
use Rattle.ld_schedule.specs.declared.event.Picture.{Picture as Named}
use Rattle.ld_disk.specs.Record.{State}
use Rattle.ld_disk.specs.Plain.{Plain as DiskPlain, Call, after_calls, all_made}
use Rattle.ld_journal.specs.Format.{append_calls}
use Rattle.ld_journal.specs.Pictures.{seen_by}
use Rattle.ld_op.specs.declared.op.Op.{Op}
use Rattle.ld_op.specs.declared.record.Record.TheVariants.{Now}
use Rattle.ld_op.specs.Plain.{Plain, apply, op_length}
use Rattle.ld_op.specs.Records.{is_format}
use Rattle.ld_op.specs.Bounds.{IsOp}
use Rattle.ld_op.specs.Bytes.{op_bytes}
use Rattle.ld_layout.specs.Layout.{Layout, Segment, switches, switch_calls, kept_in, passes_limit, kind_of}
use Rattle.ld_segment.specs.Lies.{Slots, MayKeep, segment_for, switch_row, calls_by, op_row, switching, slots_with}
use Rattle.ld_layout.proofs.Segments.{kept_growing}
use Rattle.ld_segment.proofs.Bodies.{record_long}
use Rattle.ld_segment.proofs.Durable.{all_lie, all_safe, all_read}
use Rattle.ld_segment.proofs.Sound.{sound_kept}
use Rattle.ld_store.proofs.Applying.{kept_ops}
use Rattle.ld_machine.specs.Disk.{Node, Status, fault_after, cut_of, with_op}
use Rattle.ld_host.specs.Faults.{crash_of, pictures_of, IsArmed}
use Rattle.ld_host.specs.Lies.{IsWhole, Rests, Lies}
use Rattle.ld_host.proofs.Fates.{AllMade, Stops}

-- the pictures of a crash in a call, one or none
abbrev pub seen_then : Option Named → List Named
seen_then None = []
seen_then (Some p) = p ∷ []

-- the node with a record that was cut short
abbrev pub cut_node : Node → Op → Status → ℕ → Option Named → Node
cut_node x o status left crash = record x { status = status; cut = Some (cut_of x o left (is_some crash) (seen_then crash)); fault = None }

crash_too : (crash : Option Named) → is_some crash ≡ is_some (crash_of crash)
crash_too None = refl
crash_too (Some p) = refl

seen_too : (crash : Option Named) → pictures_of (seen_then crash) ≡ seen_by (crash_of crash) []
seen_too None = refl
seen_too (Some p) = refl

-- ---- how many calls ----

with_switch : (y : Layout) (z : Slots) (g : Segment) (gate : ℕ) (body : List ℕ) (a : Option Segment) → length (switch_row (kind_of y) y z g a ++ append_calls gate body) ≡ switch_calls a + 4
with_switch y z g gate body None = refl
with_switch y z g gate body (Some s) = refl

calls_long : (y : Layout) (z : Slots) (body : List ℕ) (n : ℕ) (t : Bool) → length (calls_by (kind_of y) y z body n t) ≡ (if t then switch_calls y.later else 0) + 4
calls_long y z body n true = with_switch y z (segment_for y n) (segment_for y n).end body y.later
calls_long y z body n false = refl

pub row_long : (y : Layout) (z : Slots) (o : Op) → length (op_row y z o) ≡ switching y o + 4
row_long y z o = calls_long y z (op_bytes o) (length (op_bytes o)) (switches y (length (op_bytes o))) ∙ ap (λ n. (if switches y n then switch_calls y.later else 0) + 4) (record_long (Now o))

-- ---- an op that may be kept ----

-- where the journal lies so, as far as its record fits; and it leaves the store formatted
pub record Follows (y : Layout) (p : Plain) (o : Op) : Type 0 where
  pub op : IsOp o
  pub format : is_format o ≡ (y.ops == 0)
  pub formatted : ((apply p o).generation == 0) ≡ false

pub may_keep : (y : Layout) (p : Plain) (o : Op) → Follows y p o → passes_limit y o ≡ false → MayKeep y o
may_keep y p o next fits = record { op = next.op; format = next.format; fits = fits }

-- ---- what lies there ----

pub made_whole : (y : Layout) (z : Slots) (p : Plain) (o : Op) (s : State) → MayKeep y o → IsWhole y z p s → IsWhole (kept_in y o) (slots_with y z (op_length o)) (apply p o) (all_made (op_row y z o) s)
made_whole y z p o s may w = record {
  lies = all_lie y z o s.bytes s w.safe w.lies w.sound may;
  sound = sound_kept y o w.sound may;
  still = kept_growing y o ∙ w.still;
  plain = ap (λ q. apply q o) w.plain ∙ sym (all_read y z o s.bytes s w.safe w.lies w.sound may);
  safe = all_safe y z o s.bytes s w.safe;
}

module _ (p : DiskPlain) (x : Node) (o : Op) (lies : Lies p x) (whole : x.cut ≡ None) (next : MayKeep x.layout o) (formatted : ((apply x.plain o).generation == 0) ≡ false) where
  abbrev calls : List Call
  calls = op_row x.layout lies.slots o

  abbrev slots_then : Slots
  slots_then = slots_with x.layout lies.slots (op_length o)

  pub whole_is : IsWhole x.layout lies.slots x.plain p.state
  whole_is = subst (λ k. Rests x.layout lies.slots x.plain k p.state) whole lies.rests

  abbrev whole_then : (s : State) → s ≡ all_made calls p.state → IsWhole (kept_in x.layout o) slots_then (apply x.plain o) s
  whole_then s is = subst (λ t. IsWhole (kept_in x.layout o) slots_then (apply x.plain o) t) (sym is) (made_whole x.layout lies.slots x.plain o p.state next whole_is)

  unfoldable pub written_lies : AllMade calls x.fault p → Lies (after_calls calls p) (with_op x o)
  written_lies made = record {
    slots = slots_then;
    formatted = formatted ∙ sym (kept_ops x.layout o slots_then (all_made calls p.state).bytes (made_whole x.layout lies.slots x.plain o p.state next whole_is).lies);
    rests = subst (λ k. Rests (kept_in x.layout o) slots_then (apply x.plain o) k (after_calls calls p).state) (sym whole) (whole_then (after_calls calls p).state made.state);
    armed = subst (λ k. IsArmed (fault_after k x.fault) (after_calls calls p)) (row_long x.layout lies.slots o) made.armed;
  }

  pub cut_lies : (stops : Stops calls x.fault p) (q : DiskPlain) (status : Status) → q.state ≡ (after_calls calls p).state → q.armed ≡ None → q.crashed ≡ false → Lies q (cut_node x o status stops.left stops.crash)
  cut_lies stops q status state armed stands = record {
    slots = lies.slots;
    formatted = lies.formatted;
    rests = record {
      op = o;
      next = next;
      before = p;
      whole = whole_is;
      how = crash_of stops.crash;
      later = [];
      told = stops.told;
      call = subst (λ k. stops.left ≤ k) (row_long x.layout lies.slots o) stops.most;
      state = state;
      plain = refl;
      formatted = formatted;
      switched = refl;
      layout = refl;
      switching_is = refl;
      crashed = crash_too stops.crash;
      seen = seen_too stops.crash;
    };
    armed = record { stands = stands; told = armed; counts = tt };
  }
