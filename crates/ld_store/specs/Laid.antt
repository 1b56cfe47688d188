-- How a journal lies on its disk, as a store has it beside its index.
use Rattle.std.specs.Prelude.{◌≡◌, ◌⊎◌, ◌<◌, ℕ, max, List, length, Option, None, Some, true, if◌then◌else◌}
use Rattle.ld_msg.specs.Register.{record_length, journal_limit}
use Rattle.ld_op.specs.Plain.{Plain}
use Rattle.ld_layout.specs.declared.segment.Segment.{Segment as Stretch}
use Rattle.ld_layout.specs.LaidOut.{laid_out, is_past}
use Rattle.ld_layout.specs.Layout.{Layout, full_ops, full_for, switches, switched_to}
use Rattle.ld_segment.specs.Lies.{Slots, segment_for, gate_in}
use Rattle.ld_segment.specs.Plans.{planned, planned_end}
use Rattle.ld_store.specs.declared.laid.Laid.{Laid}

abbrev pub slots_in : Laid → Slots
slots_in l = record { this = l.this; other = l.other; is_open = l.is_open }

abbrev pub layout_in : Laid → Plain → Layout
layout_in l index = laid_out l.layout index

-- the layout in which a record of so many bytes is written: after a switch, where its segment is full
abbrev pub placed_in : Layout → ℕ → Layout
placed_in y size = if switches y size then switched_to y (record_length size) (record_length size) else y

-- the number of ops with which the current segment is full
abbrev pub full_in : Option Stretch → ℕ
full_in None = full_ops
full_in (Some g) = max (full_for g.grows) g.based

-- a record, or the segment that it needs, passes the limit
abbrev pub IsPast : ℕ → Layout → Slots → List ℕ → Type 0
IsPast kind y z body =
    (journal_limit < y.end) ⊎ ((journal_limit < gate_in y y.later)
    ⊎ (((switches y (length body) ≡ true) × (is_past y.index (segment_for y (length body)) ≡ true)) ⊎ (journal_limit < planned_end (planned kind y z body))))
