-- What a layout, its segments and a Base are beside an index.
use Rattle.std.specs.Prelude.{ℕ, ◌+◌, ◌^◌, Option, Some, None, Bool, false, ◌&&◌, ◌||◌, nat_lt, nat_le, if◌then◌else◌}
use Rattle.ld_msg.specs.Register.{record_length, journal_limit}
use Rattle.ld_op.specs.Plain.{Plain}
use Rattle.ld_layout.specs.declared.base.Based.{Based}
use Rattle.ld_layout.specs.declared.segment.Growth.{Growth}
use Rattle.ld_layout.specs.declared.segment.Segment.{Segment as Stretch}
use Rattle.ld_layout.specs.declared.segment.Layout.{Layout as Plan}
use Rattle.ld_layout.specs.Base.{Base}
use Rattle.ld_layout.specs.Layout.{Layout, Segment, head_end, base_length}

abbrev pub base_of : Based → Base
base_of b = record { kind = b.kind; index = b.index.state; areas = b.areas }

abbrev pub segment_of : Stretch → Segment
segment_of g = record { place = g.place; based = g.based; ops = g.ops; end = g.end; limit = g.limit; areas = g.areas; number = g.number; grows = g.grows }

abbrev pub later_of : Option Stretch → Option Segment
later_of None = None
later_of (Some g) = Some (segment_of g)

-- with the index of the journal
abbrev pub laid_out : Plan → Plain → Layout
laid_out y index = record { ops = y.ops; end = y.end; later = later_of y.later; index = index; grows = y.grows }

-- the gate behind the last record
abbrev pub gate_behind : ℕ → Option Stretch → ℕ
gate_behind end None = end
gate_behind end (Some g) = g.end

-- how many op records the current segment has
abbrev pub ops_behind : ℕ → Option Stretch → ℕ
ops_behind ops None = ops
ops_behind ops (Some g) = g.ops

-- a later segment that passes the limit, or whose Base or number would be too long
abbrev pub is_past : Plain → Segment → Bool
is_past index g = nat_lt journal_limit g.limit || (nat_le (2 ^ 32) (base_length index g.areas) || nat_le (2 ^ 64) g.number)

-- whether a record of so many bytes passes the limit where no switch comes before it
abbrev pub passes_first : ℕ → ℕ → Option Stretch → Bool
passes_first end body None = nat_lt journal_limit (end + 1 + record_length body)
passes_first end body (Some g) = false

abbrev pub more_ops : Bool → ℕ → ℕ
more_ops is_op ops = if is_op then ops + 1 else ops

abbrev pub recorded_in : Growth → ℕ → ℕ → Option Stretch → ℕ → Bool → Plan
recorded_in grows ops end None body is_op = record { ops = more_ops is_op ops; end = end + record_length body; later = None; grows = grows }
recorded_in grows ops end (Some g) body is_op = record { ops = ops; end = end; later = Some (record g { ops = more_ops is_op g.ops; end = g.end + record_length body }); grows = grows }

-- a layout with a record of so many bytes more, which is an op's or a mark's
abbrev pub recorded : Plan → ℕ → Bool → Plan
recorded y body is_op = recorded_in y.grows y.ops y.end y.later body is_op

-- a later segment lies behind the head, and its records within its area, which ends before the limit; no segment has more op records than bytes
abbrev pub is_within_later : ℕ → ℕ → Option Stretch → Bool
is_within_later ops end None = nat_le ops end
is_within_later ops end (Some g) = nat_le (head_end end) g.place && (nat_le g.ops g.end && (nat_le (g.end + 1) g.limit && nat_le g.limit journal_limit))

-- so does the first segment end
abbrev pub is_within : Plan → Bool
is_within y = nat_le y.end journal_limit && is_within_later y.ops y.end y.later
