-- Ops that a node may keep of a message.
use Rattle.std.specs.Prelude.{◌≡◌, true, false, List, [], Option, Some, None}
use Rattle.ld_disk.specs.Plain.{Call}
use Rattle.ld_op.specs.Plain.{Plain, apply, op_length}
use Rattle.ld_op.specs.declared.op.Op.{Op}
use Rattle.ld_op.specs.Bounds.{IsOp}
use Rattle.ld_layout.specs.Layout.{Layout, kept_in, passes_limit}
use Rattle.ld_segment.specs.Lies.{Slots, op_row, slots_with}
use Rattle.ld_store.specs.Ops.{is_format}

-- an op that a journal's body can carry, and no format
pub record IsChange (o : Op) : Type 0 where
  pub op : IsOp o
  pub kind : is_format o ≡ false

-- ---- an op that is kept, where there is one ----

abbrev pub kept : Option Op → Plain → Plain
kept None p = p
kept (Some o) p = apply p o

-- how the journal lies then
abbrev pub laid_with : Layout → Option Op → Layout
laid_with y None = y
laid_with y (Some o) = kept_in y o

-- and the slots that tell its later segment
abbrev pub slots_kept : Layout → Slots → Option Op → Slots
slots_kept y z None = z
slots_kept y z (Some o) = slots_with y z (op_length o)

-- its writing calls, where the journal lies so
abbrev pub calls_of : Layout → Slots → Option Op → List Call
calls_of y z None = []
calls_of y z (Some o) = op_row y z o

-- its record, or the segment that it needs, would pass the journal's limit
abbrev pub IsPast : Layout → Option Op → Type 0
IsPast y None = ⊥
IsPast y (Some o) = passes_limit y o ≡ true

abbrev pub AreChanges : Option Op → Type 0
AreChanges None = Unit {0}
AreChanges (Some o) = IsChange o
