-- What a journal's records make of the plain state, and which may follow one another.
use Rattle.std.specs.Prelude.{ℕ, ◌+◌, Option, Some, None, Bool, true, false, ◌||◌, not, if◌then◌else◌}
use Rattle.ld_op.specs.declared.op.Op.{Op}
use Rattle.ld_op.specs.declared.op.Op.TheVariants as ops
use Rattle.ld_op.specs.declared.record.Record.{Record}
use Rattle.ld_op.specs.declared.record.Record.TheVariants.{Now, Before, Mark}
use Rattle.ld_op.specs.declared.version.Version.{Version}
use Rattle.ld_op.specs.declared.version.Version.TheVariants.{Blank, First, Second}
use Rattle.ld_op.specs.Plain.{Plain, apply, op_length, epochs_length}

-- ---- the plain state ----

-- a mark changes nothing
abbrev pub applied : Plain → Record → Plain
applied p (Now o) = apply p o
applied p (Before o) = apply p o
applied p Mark = p

-- ---- the versions of a journal ----

abbrev pub is_format : Op → Bool
is_format (ops.Format generation epochs) = true
is_format _ = false

abbrev pub is_clean : Op → Bool
is_clean (ops.Clean l epoch y) = true
is_clean _ = false

-- the first record of a journal is a format, which tells the version
abbrev pub opened_by : Record → Option Version
opened_by (Now o) = if is_format o then Some Second else None
opened_by (Before o) = if is_format o then Some First else None
opened_by Mark = None

-- up to a mark closes are spelt as the first version spelt them
abbrev pub first_after : Record → Option Version
first_after (Now o) = if not (is_format o || is_clean o) then Some First else None
first_after (Before o) = if is_clean o then Some First else None
first_after Mark = Some Second

-- then all ops are spelt as they are now
abbrev pub second_after : Record → Option Version
second_after (Now o) = if not (is_format o) then Some Second else None
second_after (Before o) = None
second_after Mark = None

-- the version of a journal with a record more, where the record may follow
abbrev pub version_after : Version → Record → Option Version
version_after Blank v = opened_by v
version_after First v = first_after v
version_after Second v = second_after v

abbrev pub is_blank : Version → Bool
is_blank Blank = true
is_blank First = false
is_blank Second = false

abbrev pub is_first : Version → Bool
is_first Blank = false
is_first First = true
is_first Second = false

-- ---- lengths of records in the journal ----

unfoldable pub older_length : Op → ℕ
older_length (ops.Format generation epochs) = 6 + epochs_length epochs
older_length (ops.Clean l epoch y) = 29
older_length _ = 0

abbrev pub body_length : Record → ℕ
body_length (Now o) = op_length o
body_length (Before o) = older_length o
body_length Mark = 2
